-- What refuses a call for the diluted edge list, from what the checks' functions answered.
use mathlib.Core.Path.{◌≡◌, refl}
use mathlib.Core.Bool.{Bool, true, false, not, ◌||◌, ◌&&◌}
use mathlib.Core.List.{List}
use Prim.Native.Nat.{ℕ, ◌*◌}
use lib.Dec.{eqb, ltb}
use lib.Ieee.{Float, nan, inf, fin, binary64, lt, neg, div, of_bits}
use lib.Ieee.Scale.{finite}
use lib.ListN.{length}
use Rattle.refusals.specs.Request.{oversized}
use Rattle.refusals.specs.StripRequest.{Dilution}
use Rattle.refusals.proofs.Laws.First.{here, past, told}
use Rattle.strip.specs.Requests.{odd_cylinder}
use Rattle.strip.specs.declared.strip.Strip.{Strip}
use Rattle.strip_bonds.specs.Edges.{edges}
use Rattle.strip_edges.specs.Listing.{too_short}
use Rattle.strip_edges.proofs.Laws.Listing.{short-is}
use Rattle.strip_dilution.specs.Diluted.{diluted_refusal}

pub finite_test : (x : Float) → (lt (neg (div binary64 (of_bits binary64 4607182418800017408) (of_bits binary64 0))) x
    && lt x (div binary64 (of_bits binary64 4607182418800017408) (of_bits binary64 0))) ≡ finite x
unfolding lt neg div of_bits
finite_test nan = refl
finite_test (inf true) = refl
finite_test (inf false) = refl
finite_test (fin s m e) = refl

module _ (s : Strip) (d : Dilution) (early late : List ℕ) (mag : List Float) {sides : Bool}
    (p : sides ≡ (eqb s.w 0 || eqb s.l 0 || ltb 1024 (s.w * s.l))) where
  pub diluted_15 : sides ≡ true → 15 ≡ diluted_refusal s d early late mag
  unfolding diluted_refusal
  diluted_15 t = here _ _ _ (told p t)

  module _ (p' : sides ≡ false) {odd : Bool} (q : odd ≡ odd_cylinder s) where
    pub diluted_16 : odd ≡ true → 16 ≡ diluted_refusal s d early late mag
    unfolding diluted_refusal
    diluted_16 t = past _ _ _ _ (told p p') (here _ _ _ (told q t))

    module _ (q' : odd ≡ false) {bad : Bool} (b : bad ≡ (not (finite d.keep) || oversized d.low || oversized d.high)) where
      pub diluted_17 : bad ≡ true → 17 ≡ diluted_refusal s d early late mag
      unfolding diluted_refusal
      diluted_17 t = past _ _ _ _ (told p p') (past _ _ _ _ (told q q') (here _ _ _ (told b t)))

      module _ (b' : bad ≡ false) {k : ℕ} (n : k ≡ length (edges s)) {short : Bool} (r : short ≡ too_short k early late mag) where
        pub diluted_12 : short ≡ true → 12 ≡ diluted_refusal s d early late mag
        unfolding diluted_refusal
        diluted_12 t =
            past _ _ _ _ (told p p') (past _ _ _ _ (told q q') (past _ _ _ _ (told b b') (here _ _ _ (told (short-is s early late mag n r) t))))

        pub diluted_0 : short ≡ false → 0 ≡ diluted_refusal s d early late mag
        unfolding diluted_refusal
        diluted_0 t =
            past _ _ _ _ (told p p') (past _ _ _ _ (told q q') (past _ _ _ _ (told b b') (past _ _ _ _ (told (short-is s early late mag n r) t) refl)))
