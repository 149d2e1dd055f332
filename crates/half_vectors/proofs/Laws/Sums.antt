-- Laws of what specs/Sums defines.
use Rattle.std.specs.Prelude.{◌≡◌, refl, Bool, true, false, not, List, ℕ, ◌*◌, ◌-◌, ◌^◌, ◌≤◌, ◌<◌, T, Float}
use Rattle.std.specs.Bool.{beq}
use Rattle.std.proofs.Common.{arith}
use Rattle.std.specs.Float.{binary64}
use Rattle.std.specs.Float.Ieee.{mul, fits}
use Rattle.std.specs.Float.Ieee.Fits.{mul-fits}
use Rattle.list_laws.specs.Bits.{bit}
use Rattle.list_laws.proofs.Laws.Power.{pow_double}
use Rattle.transfer_matrix.specs.Arithmetic.{sum, signed_sum}
use Rattle.transfer_matrix.specs.Rounded.{ieee}
use Rattle.transfer_matrix.specs.Sweep as S
use Rattle.half_vectors.proofs.Laws.Flip.{bit_flips}
use Rattle.rounding.proofs.Laws.Negation.{neg_first}
use Rattle.rounding.proofs.Laws.Alike.{alike_is, alike_mul}
use Rattle.half_vectors.proofs.Laws.Terms.{SameTerm, like, negated, signed_same, sum_same}
use Rattle.half_vectors.specs.Half.{there_and_back}
use Rattle.half_vectors.proofs.Laws.Half.{there, back, by_halves}
use Rattle.half_vectors.specs.Symmetric.{SymmetricHalf}
use Rattle.half_vectors.proofs.Laws.Symmetric.{symmetric_entry}
use Rattle.half_vectors.specs.Antisymmetric.{AntisymmetricHalf}
use Rattle.half_vectors.specs.Sums.{half_products, differ}

-- the products of two vectors' entries, and of two halves'
abbrev pub products : List Float → List Float → ℕ → Float
products v b j = mul binary64 (S.at ieee v j) (S.at ieee b j)

beq_not : (s t : Bool) → not (beq (not s) (not t)) ≡ not (beq s t)
beq_not true true = refl
beq_not true false = refl
beq_not false true = refl
beq_not false false = refl

differ_flips : (w d j : ℕ) → d < w → j < 2 ^ w → differ d (2 ^ w - 1 - j) ≡ differ d j
differ_flips w d j l b = rw (bit_flips w 0 j (omega arith) b, bit_flips w d j l b) (beq_not (bit 0 j) (bit d j))

module _ (w : ℕ) (wide : 1 ≤ w) where
  whole : 2 ^ w ≡ 2 * 2 ^ (w - 1)
  whole = pow_double w wide

  -- a sum whose terms at j and 2 ^ w - 1 - j are the half's at j
  pub signed-halves : (m : ℕ → Bool) (f g : ℕ → Float) → ((j : ℕ) → T (fits binary64 (f j)))
      → ((j : ℕ) → j < 2 ^ (w - 1) → SameTerm (m j) (f j) (m j) (g j))
      → ((j : ℕ) → j < 2 ^ (w - 1) → SameTerm (m (2 ^ w - 1 - j)) (f (2 ^ w - 1 - j)) (m j) (g j))
      → signed_sum ieee (2 ^ w) m f ≡ signed_sum ieee (2 ^ w) (there_and_back w m) (there_and_back w g)
  signed-halves m f g p q r =
      signed_same (2 ^ w) m (there_and_back w m) f (there_and_back w g) (λ j _. p j)
      (by_halves w wide (λ j. SameTerm (m j) (f j) (there_and_back w m j) (there_and_back w g j))
      (λ j b. rw (there w wide m j b, there w wide g j b) (q j b))
      (λ j b. rw (back w wide m j b, back w wide g j b) (r j b)))

  -- ---- the sums of the vector v, of the half h, and the backward vector b, of the half k

  module _ (h k : ℕ → Float) (v b : List Float) (symmetric : SymmetricHalf w k b) where
    -- Z
    pub Z-halves : SymmetricHalf w h v → sum ieee (2 ^ w) (products v b) ≡ sum ieee (2 ^ w) (there_and_back w (half_products h k))
    Z-halves e = sum_same (2 ^ w) (products v b) (there_and_back w (half_products h k)) (λ j l. rw (symmetric_entry wide e j l, symmetric_entry wide symmetric j l))

    -- N of a direct pair: bits 0 and d differ at 2 ^ w - 1 - j where they do at j
    pub direct-halves : SymmetricHalf w h v → (d : ℕ) → d < w
        → signed_sum ieee (2 ^ w) (differ d) (products v b) ≡ signed_sum ieee (2 ^ w) (there_and_back w (differ d)) (there_and_back w (half_products h k))
    direct-halves e d l =
        signed-halves (differ d) (products v b) (half_products h k) (λ j. mul-fits binary64 (S.at ieee v j) (S.at ieee b j))
        (λ j c. like (alike_mul binary64 (alike_is (e.low j c)) (alike_is (symmetric.low j c))))
        (λ j c. rw (differ_flips w d j l (omega (arith, whole))) (like (alike_mul binary64 (alike_is (e.high j c)) (alike_is (symmetric.high j c)))))

    -- N of a propagated pair: at 2 ^ w - 1 - j both the sign and the propagated entry iteration
    pub propagated-halves : AntisymmetricHalf w h v
        → signed_sum ieee (2 ^ w) (bit 0) (products v b) ≡ signed_sum ieee (2 ^ w) (there_and_back w (bit 0)) (there_and_back w (half_products h k))
    propagated-halves o =
        signed-halves (bit 0) (products v b) (half_products h k) (λ j. mul-fits binary64 (S.at ieee v j) (S.at ieee b j))
        (λ j c. like (alike_mul binary64 (o.low j c) (alike_is (symmetric.low j c))))
        (λ j c.
        let t = alike_mul binary64 (o.high j c) (alike_is (symmetric.high j c)) in
        rw (bit_flips w 0 j wide (omega (arith, whole))) (negated (rw (← neg_first binary64 (h j) (k j)) at t)))
