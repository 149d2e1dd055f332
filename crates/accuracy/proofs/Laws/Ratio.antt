-- The rounded ratio of two doubles that are close, their errors of the size of the denominator: it is close to the exact ratio.
use Rattle.std.specs.Prelude.{◌≡◌, ℕ, ◌+◌, ◌*◌, T, Float}
use Rattle.std.proofs.Math.Path.{sym, ap, ap₂, subst}
use Rattle.std.proofs.Common.{◌∙◌, arith}
use Rattle.std.specs.Float.{binary64}
use Rattle.std.specs.Float.Ieee.{div}
use Rattle.std.specs.Float.Ieee.Positive.{positive, positive-finite}
use Rattle.rounding.proofs.Laws.Under.{div_under}
use Rattle.rounding.specs.Laws.Under.{Under}
use Rattle.fraction.proofs.Fraction.{ℚ, oneℚ, addℚ, invℚ, Posℚ}
use Rattle.fraction.proofs.Laws.Fraction.{pos_inv, mul_inv_pos}
use Rattle.fraction.proofs.Value.{value}
use Rattle.fraction.proofs.Laws.Value.{value_pos}
use Rattle.transfer_matrix.specs.Sweep.{Z, N}
use Rattle.accuracy.specs.Ring.{NonNeg}
use Rattle.accuracy.proofs.Laws.Ring.{◌⊹◌, ◌⋆◌, ‐◌, sorted, spread, +-*, *-+, +_assoc, *-one, *_assoc, ◌≼◌, move, nn_mul, nn_add, nn_pos}
use Rattle.accuracy.proofs.Laws.Ring.{*_comm}
use Rattle.accuracy.proofs.Within.{Within}
use Rattle.accuracy.proofs.Laws.Within.{within_nonneg, within_neg, within_add, within_mul, within_mono}
use Rattle.accuracy.specs.Rounds.{ε}
use Rattle.accuracy.proofs.Laws.Rounds.{ε_nn}
use Rattle.accuracy.proofs.Laws.Operations.{div_rounds}
use Rattle.accuracy.proofs.Close.{Close, gain}
use Rattle.accuracy.proofs.Laws.Close.{gain_nn, gain_add}
use Rattle.accuracy.proofs.Laws.Sizes.{smallest-one, under-within}
use Rattle.accuracy.proofs.Laws.Roundings.{gain-one}

-- ---- q is (N + d) / (Z + a), at most one in size, and d and a are at most g Z: then q is N / Z, but for twice g

module _ (N Z a d q i g : ℚ) (one : Z ⋆ i ≡ oneℚ) (i-nn : NonNeg i) (is : q ⋆ (Z ⊹ a) ≡ N ⊹ d) (A : Within a (g ⋆ Z)) (D : Within d (g ⋆ Z))
    (Q : Within q oneℚ) where
  ratio-error : ℚ
  ratio-error = (d ⊹ ‐ (q ⋆ a)) ⋆ i

  ratio-is : q ≡ N ⋆ i ⊹ ratio-error
  unfolding ratio-error
  ratio-is =
      let x : q ⋆ Z ≡ N ⊹ (d ⊹ ‐ (q ⋆ a)) = move (q ⋆ Z) (q ⋆ a) N d (sym (*-+ q Z a) ∙ is) in
      sym (*-one q) ∙ ap (λ z. q ⋆ z) (sym one) ∙ sym (*_assoc q Z i) ∙ ap (λ z. z ⋆ i) x ∙ +-* N (d ⊹ ‐ (q ⋆ a)) i

  ratio-small : Within ratio-error (g ⊹ g)
  unfolding ratio-error
  ratio-small =
      subst (Within ((d ⊹ ‐ (q ⋆ a)) ⋆ i)) (ring g Z i ∙ ap (λ z. g ⋆ z ⊹ g ⋆ z) one ∙ ap₂ addℚ (*-one g) (*-one g))
      (within_mul (within_add D (within_neg (within_mul Q A))) (within_nonneg i i-nn))
    where
      ring : (g z i : ℚ) → (g ⋆ z ⊹ oneℚ ⋆ (g ⋆ z)) ⋆ i ≡ g ⋆ (z ⋆ i) ⊹ g ⋆ (z ⋆ i)
      ring g z i = simp (spread, sorted)

-- Twice what k roundings do, and one rounding, is no more than what 2 k + 1 do.
twice : (k : ℕ) → (gain k ⊹ gain k) ⊹ ε ⋆ oneℚ ≼ gain (2 * k + 1) ⋆ oneℚ
twice k = record {
  rest = gain k ⋆ gain k ⊹ gain (k + k) ⋆ ε;
  is =
      *-one _ ∙ ap gain (omega arith) ∙ gain_add (k + k) 1
      ∙ ap₂ (λ x y. (x ⊹ y) ⊹ gain (k + k) ⋆ y) (gain_add k k) gain-one ∙ ring (gain k) (gain k ⋆ gain k) (gain (k + k)) ε;
  nonneg = nn_add _ _ (nn_mul _ _ (gain_nn k) (gain_nn k)) (nn_mul _ _ (gain_nn (k + k)) ε_nn);
}
  where
    ring : (g s h e : ℚ) → (((g ⊹ g) ⊹ s) ⊹ e) ⊹ h ⋆ e ≡ ((g ⊹ g) ⊹ e ⋆ oneℚ) ⊹ (s ⊹ h ⋆ e)
    ring g s h e = simp (spread, sorted)

-- With k roundings on the way to each, and the numerator under the denominator, there are 2 k + 1 on the way to the ratio.
pub ratio-close : (k : ℕ) (x y : Float) (N Z : ℚ) → T (positive y) → Under x y → Posℚ Z → Close k x N Z → Close k y Z Z
    → Close (2 * k + 1) (div binary64 x y) (N ⋆ invℚ Z) oneℚ
ratio-close k x y N Z sound under Z_pos near-x near-y =
    let i = invℚ Z in
    let z = value_pos y sound in
    let q = value x ⋆ invℚ (value y) in
    let Q : Within q oneℚ = subst (Within q) (mul_inv_pos (value y) z)
    (within_mul (under-within x y under (positive-finite y sound)) (within_nonneg (invℚ (value y)) (nn_pos _ (pos_inv (value y) z)))) in
    let a = near-y.error in
    let d = near-x.error in
    let is : q ⋆ (Z ⊹ a) ≡ N ⊹ d = ap (λ s. q ⋆ s) (sym near-y.is) ∙ back-again (value x) (value y) z ∙ near-x.is in
    let I = nn_pos i (pos_inv Z Z_pos) in
    let one = mul_inv_pos Z Z_pos in
    let err = ratio-error N Z a d q i (gain k) one I is near-y.small near-x.small Q in
    let r = div_rounds x y sound ((div_under binary64 under sound).size tt).is_finite in
    let e₁ = ratio-is N Z a d q i (gain k) one I is near-y.small near-x.small Q in
    let w₁ = ratio-small N Z a d q i (gain k) one I is near-y.small near-x.small Q in
    record {
      error = err ⊹ r.error;
      is = r.is ∙ ap (λ s. s ⊹ r.error) e₁ ∙ +_assoc _ err r.error;
      small = within_mono (within_add w₁ (r.small oneℚ Q smallest-one)) (twice k);
      size = subst (Within (N ⋆ i)) one (within_mul near-x.size (within_nonneg i I));
    }
  where
    back-again : (x y : ℚ) → Posℚ y → (x ⋆ invℚ y) ⋆ y ≡ x
    back-again x y p = *_assoc x (invℚ y) y ∙ ap (λ z. x ⋆ z) (*_comm (invℚ y) y ∙ mul_inv_pos y p) ∙ *-one x
