-- The kept edges written out, where the lists hold them.
use mathlib.Core.Path.{◌≡◌, refl, ap, ◌∙◌}
use mathlib.Core.Bool.{true, false, ◌||◌}
use mathlib.Core.List.{List}
use Prim.Native.Nat.{ℕ, ◌≤◌}
use lib.Dec.{ltb}
use lib.Ieee.{Float}
use lib.ListN.{length}
use borrow.Author.Tests.{ltb-false}
use Rattle.list_laws.proofs.Laws.Search.{or-false}
use Rattle.list_laws.specs.Front.{over}
use Rattle.refusals.specs.Edges.{kept}
use Rattle.kept_edges.specs.Keep.{Written, Placed, places_of, Holds}
use Rattle.kept_edges.proofs.Laws.Places.{places-alone, places-length}
use Rattle.graph_edges.specs.Graphs.{WrittenKept, too_short}

-- buffers that are not too short hold the edges
pub holds-all : (k : ℕ) (early late : List ℕ) (mag : List Float) (raw : List ℕ) → too_short k early late mag raw ≡ false → Holds k early late mag × (k ≤ length raw)
holds-all k early late mag raw h =
    let o = or-false (ltb (length early) k || ltb (length late) k || ltb (length mag) k) (ltb (length raw) k) h in
    let p = or-false (ltb (length early) k || ltb (length late) k) (ltb (length mag) k) o.0 in
    let q = or-false (ltb (length early) k) (ltb (length late) k) p.0 in
    (record { earlies = ltb-false _ _ q.0; lates = ltb-false _ _ q.1; mags = ltb-false _ _ p.1 }, ltb-false _ _ o.1)

-- and the places, which are as many
pub holds-places : (a b : List ℕ) (m : List Float) (raw : List ℕ) → length m ≡ length a → length (kept a b m) ≤ length raw → length (places_of m (length m)) ≤ length raw
holds-places a b m raw e h = rw e (rw (places-length a b m (length a)) h)

pub written-short : (a b : List ℕ) (m : List Float) (early late : List ℕ) (mag : List Float) (raw : List ℕ) → too_short (length (kept a b m)) early late mag raw ≡ true
    → WrittenKept (kept a b m) 12 early early late late mag mag raw raw
written-short a b m early late mag raw h = record { refusal = rw h; earlies = refl; lates = refl; mags = refl; raws = refl }

pub written_all : {a b : List ℕ} {m : List Float} {j l : ℕ} {early early' late late' : List ℕ} {mag mag' : List Float} {raw raw' : List ℕ}
    → length m ≡ length a → too_short (length (kept a b m)) early late mag raw ≡ false → Written a b m (length a) j early early' late late' mag mag'
    → Placed m (length m) l raw raw' → WrittenKept (kept a b m) 0 early early' late late' mag mag' raw raw'
written_all {a} {b} {m} {raw = raw} e h W P =
    record {
      refusal = rw h;
      earlies = W.earlies;
      lates = W.lates;
      mags = W.mags;
      raws = P.raws ∙ ap (λ i. over (places_of m i) raw) e ∙ ap (λ l. over l raw) (places-alone a b m (length a));
    }
