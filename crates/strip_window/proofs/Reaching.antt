-- The reach, as its tests come out.
use mathlib.Core.Path.{◌≡◌}
use mathlib.Core.Bool.{Bool, true, false, not, ◌&&◌}
use Prim.Native.Nat.{◌+◌, ◌-◌, ◌*◌, ◌≤◌, ◌<◌}
use lib.Dec.{ltb}
use borrow.Author.Tests.{lt-ltb, le-ltb}
use Rattle.strip.specs.Kinds.{is_honey, is_eight}
use Rattle.strip.specs.declared.strip.Strip.{Strip}
use Rattle.strip_bonds.specs.Edges.{rises}
use Rattle.strip_window.specs.Reach.{reach}

module _ (s : Strip) where
  module _ {t : Bool} (p : t ≡ is_eight s.kind) (h : 1 < s.l) where
    pub reach_far : (t && s.periodic && ltb 2 s.w) ≡ true → 2 * s.w - 1 ≡ reach s
    unfolding reach
    reach_far q = rw (lt-ltb 1 s.l h, rw p at q)

    module _ (q : (t && s.periodic && ltb 2 s.w) ≡ false) {r : Bool} (u : r ≡ rises s) where
      pub reach-rising : (r && ltb 1 s.w) ≡ true → s.w + 1 ≡ reach s
      unfolding reach
      reach-rising v = rw (lt-ltb 1 s.l h, rw p at q, rw u at v)

      pub reach-along : (r && ltb 1 s.w) ≡ false → s.w ≡ reach s
      unfolding reach
      reach-along v = rw (lt-ltb 1 s.l h, rw p at q, rw u at v)

  pub reach_round : {t : Bool} → t ≡ not (is_honey s.kind) → s.l ≤ 1 → (t && s.periodic && ltb 2 s.w) ≡ true → s.w - 1 ≡ reach s
  unfolding reach
  reach_round p h q = rw (le-ltb 1 s.l h, ← p, q)

  pub reach-short : {t : Bool} → t ≡ not (is_honey s.kind) → s.l ≤ 1 → (t && s.periodic && ltb 2 s.w) ≡ false → 1 ≡ reach s
  unfolding reach
  reach-short p h q = rw (le-ltb 1 s.l h, ← p, q)
