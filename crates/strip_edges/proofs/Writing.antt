-- Edges on their way into the buffers: one more behind the front, a site's, and all.
use mathlib.Core.Path.{◌≡◌, refl, sym, ap, ◌∙◌}
use mathlib.Core.List.{List, [], ◌∷◌, ◌++◌, map, map-append, append-nil}
use Prim.Native.Nat.{ℕ, ◌+◌, ◌*◌, ◌/◌, ◌%◌, ◌≤◌, ◌<◌}
use native.Mathlib.Nat.{le_trans}
use native.Mathlib.Omega.{arith}
use lib.Ieee.{Float}
use lib.ListN.{length, drop, set, length-append, length-drop, length-map, length-set}
use Rattle.list_laws.specs.Front.{over}
use Rattle.list_laws.proofs.Laws.Front.{over-more, over-length}
use Rattle.strip_bonds.specs.declared.Edge.{Edge}
use Rattle.strip_bonds.specs.Edges.{edge, one, edges_below, edges, early_ends, late_ends, unit_magnitudes}
use Rattle.strip_bonds.specs.Sites.{site_count}
use Rattle.strip_bonds.proofs.Laws.Sites.{added-length, edges_more, edges-below}
use Rattle.strip_edges.specs.Listing.{Written, Placed, Sized, Holds}
use Rattle.strip.specs.declared.strip.Strip.{Strip}

-- one element more behind a buffer's front, which holds a column of the edges
column-more : {A : Type 0} (f : Edge → A) (es : List Edge) (e : Edge) (l l₀ : List A) (k : ℕ) → l ≡ over (map f es) l₀
    → k ≡ length es → k < length l → set l k (f e) ≡ over (map f (es ++ (e ∷ []))) l₀
column-more f es e l l₀ k h c r =
    let n = length-map es f in
    let b : k < length l₀ = omega (arith, ap length h, length-append (map f es) (drop (length (map f es)) l₀), length-drop (length (map f es)) l₀) in
    rw (h, map-append f es (e ∷ [])) (over-more (map f es) l₀ k (f e) (c ∙ sym n) b)

pub placed_one : (a b k : ℕ) (early late : List ℕ) (mag : List Float) → Holds (k + 1) early late mag
    → Placed (edge a b ∷ []) k (k + 1) early (set early k a) late (set late k b) mag (set mag k one)
placed_one a b k early late mag h =
    let e = edge a b in
    let he : k < length early = omega (arith, h.earlies) in
    let hl : k < length late = omega (arith, h.lates) in
    let hm : k < length mag = omega (arith, h.mags) in
    record {
      number = refl;
      sized = record { earlies = length-set early k a; lates = length-set late k b; mags = length-set mag k one };
      then = λ es early₀ late₀ mag₀ w.
          let n = w.number in
          record {
            number = omega (arith, length-append es (e ∷ []));
            earlies = column-more (λ u. u.early) es e early early₀ k w.earlies n he;
            lates = column-more (λ u. u.late) es e late late₀ k w.lates n hl;
            mags = column-more (λ u. one) es e mag mag₀ k w.mags n hm;
          };
    }

pub placed-none : (k : ℕ) (early late : List ℕ) (mag : List Float) → Placed [] k k early early late late mag mag
placed-none k early late mag =
    record { number = omega arith; sized = record { earlies = refl; lates = refl; mags = refl }; then = λ es early₀ late₀ mag₀ w. rw append-nil w }

-- ---- buffers that kept their lengths
pub sized-then : {e e' e'' l l' l'' : List ℕ} {m m' m'' : List Float} → Sized e e' l l' m m' → Sized e' e'' l' l'' m' m'' → Sized e e'' l l'' m m''
sized-then p q =
    record { earlies = q.earlies ∙ p.earlies; lates = q.lates ∙ p.lates; mags = q.mags ∙ p.mags }

pub sized-holds : {e e' l l' : List ℕ} {m m' : List Float} {j : ℕ} → Sized e e' l l' m m' → Holds j e l m → Holds j e' l' m'
sized-holds p h =
    record { earlies = rw p.earlies h.earlies; lates = rw p.lates h.lates; mags = rw p.mags h.mags }

pub holds_less : {e l : List ℕ} {m : List Float} {k : ℕ} (j : ℕ) → Holds k e l m → j ≤ k → Holds j e l m
holds_less j h p = record { earlies = le_trans p h.earlies; lates = le_trans p h.lates; mags = le_trans p h.mags }

-- what was written leaves the buffers' lengths
module _ {es : List Edge} {k m : ℕ} {early₀ early late₀ late : List ℕ} {mag₀ mag : List Float}
    (w : Written es k early₀ early late₀ late mag₀ mag) (h : Holds m early₀ late₀ mag₀) (l : length es ≤ m) where
  pub written-sized : Sized early₀ early late₀ late mag₀ mag
  written-sized =
      record {
        earlies = ap length w.earlies ∙ over-length (early_ends es) early₀ (omega (arith, length-map es (λ u. u.early), h.earlies));
        lates = ap length w.lates ∙ over-length (late_ends es) late₀ (omega (arith, length-map es (λ u. u.late), h.lates));
        mags = ap length w.mags ∙ over-length (unit_magnitudes es) mag₀ (omega (arith, length-map es (λ u. one), h.mags));
      }

-- ---- the loop over the sites
pub none_written : (s : Strip) (early late : List ℕ) (mag : List Float) → Written (edges_below s 0) 0 early early late late mag mag
unfolding edges_below
none_written s early late mag = record { number = refl; earlies = refl; lates = refl; mags = refl }

module _ (s : Strip) (v : ℕ) {k : ℕ} {early₀ early late₀ late : List ℕ} {mag₀ mag : List Float}
    (w : Written (edges_below s v) k early₀ early late₀ late mag₀ mag) (h : Holds (length (edges s)) early₀ late₀ mag₀) where
  -- the next site has room
  pub site_room : v < s.w * s.l → Holds (k + site_count s (v / s.w) (v % s.w)) early late mag
  site_room l =
      let all = edges-below s (v + 1) (omega arith) in
      let here = ap length (edges_more s v) ∙ added-length s (v / s.w) (v % s.w) (edges_below s v) in
      sized-holds (written-sized w h (omega arith)) (holds_less (k + site_count s (v / s.w) (v % s.w)) h (omega (arith, w.number)))

  pub sites-sized : v ≤ s.w * s.l → Sized early₀ early late₀ late mag₀ mag
  sites-sized p = written-sized w h (edges-below s v p)

  pub all-written : s.w * s.l ≤ v → v ≤ s.w * s.l → Written (edges s) (length (edges s)) early₀ early late₀ late mag₀ mag
  all-written p q =
      let e : v ≡ s.w * s.l = omega arith in
      let w' = rw e at w in
      rw w'.number at w'
