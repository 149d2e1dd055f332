-- Laws of what specs/Fraction defines.
use Rattle.std.specs.Prelude.{◌≡◌, refl}
use Rattle.std.proofs.Common.{sym, ◌∙◌, ap, true≢false, arith}
use mathlib.Core.Quot.{Quot-set, ind}
use mathlib.Core.Quot.Quotient
use mathlib.Core.HLevel.{Π_prop}
use Rattle.std.proofs.Math.Bool.{Bool-set}
use Rattle.std.proofs.Math.Nat.{ℕ_set}
use Rattle.fraction.specs.Raw.{Raw}
use Rattle.fraction.specs.Laws.Raw.{◌~◌}
use Rattle.fraction.proofs.Laws.Raw.{pos_r_add, pos_r_mul, pos_r_inv}
use Rattle.fraction.proofs.Laws.Raw.{add_r_comm, add_r_assoc, add_r_zero, add_r-neg_r, mul_r_comm, mul_r_assoc, mul_r-one, mul_r-add_r, mul_r-inv_r}
use Rattle.fraction.proofs.Fraction.{~_setoid, ℚ, of_raw, frac, zeroℚ, oneℚ, sound, addℚ, mulℚ, negℚ, invℚ, posℚ, Posℚ}

-- ---- two fractions are equal exactly where their cross products are

pub exact : {x y : Raw} → of_raw x ≡ of_raw y → x ~ y
exact e = Quotient.exact ~_setoid (λ x y. ℕ_set _ _) e

-- ---- sum, product, negative, inverse and sign, from those of fractions as written

-- ---- the laws of a field

ind₂ : {P : ℚ → ℚ → Type 0} → ((q r : ℚ) → IsProp (P q r)) → ((x y : Raw) → P (of_raw x) (of_raw y)) → (q r : ℚ) → P q r
ind₂ = Quotient.ind₂ ~_setoid ~_setoid

ind₃ : {P : ℚ → ℚ → ℚ → Type 0} → ((q r s : ℚ) → IsProp (P q r s)) → ((x y z : Raw) → P (of_raw x) (of_raw y) (of_raw z))
    → (q r s : ℚ) → P q r s
ind₃ prop h q r s = Quotient.induction_on₃ ~_setoid ~_setoid ~_setoid prop q r s h

pub add_comm : (q r : ℚ) → addℚ q r ≡ addℚ r q
unfolding addℚ
add_comm = ind₂ (λ q r. Quot-set _ _) (λ x y. ap of_raw (add_r_comm x y))

pub add_assoc : (q r s : ℚ) → addℚ (addℚ q r) s ≡ addℚ q (addℚ r s)
unfolding addℚ
add_assoc = ind₃ (λ q r s. Quot-set _ _) (λ x y z. ap of_raw (add_r_assoc x y z))

pub add-zero : (q : ℚ) → addℚ q zeroℚ ≡ q
unfolding addℚ
add-zero = ind (λ q. Quot-set _ _) (λ x. ap of_raw (add_r_zero x))

pub add_neg : (q : ℚ) → addℚ q (negℚ q) ≡ zeroℚ
unfolding addℚ negℚ
add_neg = ind (λ q. Quot-set _ _) (λ x. sound (add_r-neg_r x))

pub mul_comm : (q r : ℚ) → mulℚ q r ≡ mulℚ r q
unfolding mulℚ
mul_comm = ind₂ (λ q r. Quot-set _ _) (λ x y. ap of_raw (mul_r_comm x y))

pub mul_assoc : (q r s : ℚ) → mulℚ (mulℚ q r) s ≡ mulℚ q (mulℚ r s)
unfolding mulℚ
mul_assoc = ind₃ (λ q r s. Quot-set _ _) (λ x y z. ap of_raw (mul_r_assoc x y z))

pub mul-one : (q : ℚ) → mulℚ q oneℚ ≡ q
unfolding mulℚ
mul-one = ind (λ q. Quot-set _ _) (λ x. ap of_raw (mul_r-one x))

pub mul-add : (q r s : ℚ) → mulℚ q (addℚ r s) ≡ addℚ (mulℚ q r) (mulℚ q s)
unfolding addℚ mulℚ
mul-add = ind₃ (λ q r s. Quot-set _ _) (λ x y z. sound (mul_r-add_r x y z))

pub mul_inv : (q : ℚ) → (q ≡ zeroℚ → ⊥) → mulℚ q (invℚ q) ≡ oneℚ
unfolding mulℚ invℚ
mul_inv = ind (λ q. Π_prop (λ h. Quot-set _ _)) (λ x h. sound (mul_r-inv_r x (λ e. h (sound e))))

-- ---- what is above zero

pub pos_one : Posℚ oneℚ
unfolding posℚ
pos_one = refl

pub pos_add : (q r : ℚ) → Posℚ q → Posℚ r → Posℚ (addℚ q r)
unfolding addℚ posℚ
pos_add = ind₂ (λ q r. Π_prop (λ h. Π_prop (λ k. Bool-set _ _))) pos_r_add

pub pos_mul : (q r : ℚ) → Posℚ q → Posℚ r → Posℚ (mulℚ q r)
unfolding mulℚ posℚ
pos_mul = ind₂ (λ q r. Π_prop (λ h. Π_prop (λ k. Bool-set _ _))) pos_r_mul

pub pos_inv : (q : ℚ) → Posℚ q → Posℚ (invℚ q)
unfolding invℚ posℚ
pos_inv = ind (λ q. Π_prop (λ h. Bool-set _ _)) pos_r_inv

pub pos_not_zero : (q : ℚ) → Posℚ q → q ≡ zeroℚ → ⊥
unfolding posℚ
pos_not_zero q h e = true≢false (sym h ∙ ap posℚ e)

pub mul_inv_pos : (q : ℚ) → Posℚ q → mulℚ q (invℚ q) ≡ oneℚ
mul_inv_pos q h = mul_inv q (pos_not_zero q h)

-- ---- 1/2 is not 1/3, and (1/2 + 1/3) / -(5/6) is -1

half_is_not_third : frac 1 0 1 ≡ frac 1 0 2 → ⊥
half_is_not_third e = omega (arith, exact e)

minus_one : mulℚ (addℚ (frac 1 0 1) (frac 1 0 2)) (invℚ (negℚ (frac 5 0 5))) ≡ frac 0 1 0
unfolding addℚ mulℚ negℚ invℚ
minus_one = sound refl
