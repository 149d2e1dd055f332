-- What refuses a call for the edge list, from what the checks' functions answered.
use mathlib.Core.Path.{◌≡◌, refl}
use mathlib.Core.Bool.{Bool, true, false, ◌||◌}
use mathlib.Core.List.{List}
use Prim.Native.Nat.{ℕ, ◌*◌}
use lib.Dec.{eqb, ltb}
use lib.Ieee.{Float}
use lib.ListN.{length}
use Rattle.refusals.proofs.Laws.First.{here, past, told}
use Rattle.strip.specs.Requests.{odd_cylinder}
use Rattle.strip.specs.declared.strip.Strip.{Strip}
use Rattle.strip_bonds.specs.Edges.{edges}
use Rattle.strip_edges.specs.Listing.{too_short}
use Rattle.strip_edges.proofs.Laws.Listing.{short-is}
use Rattle.strip_edges.specs.RawEdges.{raw_refusal}

module _ (s : Strip) (early late : List ℕ) (mag : List Float) {sides : Bool}
    (p : sides ≡ (eqb s.w 0 || eqb s.l 0 || ltb 1024 (s.w * s.l))) where
  pub raw-15 : sides ≡ true → 15 ≡ raw_refusal s early late mag
  unfolding raw_refusal
  raw-15 t = here _ _ _ (told p t)

  module _ (p' : sides ≡ false) {odd : Bool} (q : odd ≡ odd_cylinder s) where
    pub raw-16 : odd ≡ true → 16 ≡ raw_refusal s early late mag
    unfolding raw_refusal
    raw-16 t = past _ _ _ _ (told p p') (here _ _ _ (told q t))

    module _ (q' : odd ≡ false) {k : ℕ} (n : k ≡ length (edges s)) {short : Bool} (r : short ≡ too_short k early late mag) where
      pub raw-12 : short ≡ true → 12 ≡ raw_refusal s early late mag
      unfolding raw_refusal
      raw-12 t = past _ _ _ _ (told p p') (past _ _ _ _ (told q q') (here _ _ _ (told (short-is s early late mag n r) t)))

      pub raw-0 : short ≡ false → 0 ≡ raw_refusal s early late mag
      unfolding raw_refusal
      raw-0 t = past _ _ _ _ (told p p') (past _ _ _ _ (told q q') (past _ _ _ _ (told (short-is s early late mag n r) t) refl))
