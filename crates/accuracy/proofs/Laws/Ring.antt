-- Laws of what specs/Ring defines.
use Rattle.std.specs.Prelude.{◌≡◌, refl, ℕ, suc, ◌+◌, ◌*◌, ◌-◌, ◌≤◌}
use Rattle.std.proofs.Common.{sym, ◌∙◌, ap, subst, arith, ltb-false, ltb-true, lt-ltb, le-ltb}
use mathlib.Core.Quot.Quotient
use mathlib.Core.Quot.{ind}
use mathlib.Core.HLevel.{Π_prop}
use Rattle.std.proofs.Math.Bool.{Bool-set}
use Rattle.fraction.specs.Raw.{Raw, raw, bottom, bottoms, add_r}
use Rattle.fraction.proofs.Laws.Fraction as Q
use Rattle.fraction.proofs.Fraction.{~_setoid, ℚ, of_raw, frac, zeroℚ, oneℚ, sound, addℚ, mulℚ, negℚ, posℚ, Posℚ}
use Rattle.accuracy.specs.Ring.{NonNeg, nat}

infixl 60 ◌⊹◌
-- Sum, product and negative of fractions.
abbrev pub ◌⊹◌ : ℚ → ℚ → ℚ
◌⊹◌ = addℚ

infixl 70 ◌⋆◌
abbrev pub ◌⋆◌ : ℚ → ℚ → ℚ
◌⋆◌ = mulℚ

infixl 80 ‐◌
abbrev pub ‐◌ : ℚ → ℚ
‐◌ = negℚ

-- The laws of a commutative ring.
pub +_comm : (x y : ℚ) → x ⊹ y ≡ y ⊹ x
+_comm = Q.add_comm

pub +_assoc : (x y z : ℚ) → (x ⊹ y) ⊹ z ≡ x ⊹ (y ⊹ z)
+_assoc = Q.add_assoc

pub +-left : (x y z : ℚ) → x ⊹ (y ⊹ z) ≡ y ⊹ (x ⊹ z)
+-left x y z = cc (Q.add_assoc x y z, Q.add_comm x y, Q.add_assoc y x z)

pub *_comm : (x y : ℚ) → x ⋆ y ≡ y ⋆ x
*_comm = Q.mul_comm

pub *_assoc : (x y z : ℚ) → (x ⋆ y) ⋆ z ≡ x ⋆ (y ⋆ z)
*_assoc = Q.mul_assoc

pub *-left : (x y z : ℚ) → x ⋆ (y ⋆ z) ≡ y ⋆ (x ⋆ z)
*-left x y z = cc (Q.mul_assoc x y z, Q.mul_comm x y, Q.mul_assoc y x z)

pub *-+ : (x y z : ℚ) → x ⋆ (y ⊹ z) ≡ x ⋆ y ⊹ x ⋆ z
*-+ = Q.mul-add

pub +-* : (x y z : ℚ) → (x ⊹ y) ⋆ z ≡ x ⋆ z ⊹ y ⋆ z
+-* x y z = cc (Q.mul_comm (x ⊹ y) z, Q.mul-add z x y, Q.mul_comm z x, Q.mul_comm z y)

pub *-one : (x : ℚ) → x ⋆ oneℚ ≡ x
*-one = Q.mul-one

pub one-* : (x : ℚ) → oneℚ ⋆ x ≡ x
one-* x = Q.mul_comm oneℚ x ∙ Q.mul-one x

pub +_zero : (x : ℚ) → x ⊹ zeroℚ ≡ x
+_zero = Q.add-zero

pub zero_+ : (x : ℚ) → zeroℚ ⊹ x ≡ x
zero_+ x = Q.add_comm zeroℚ x ∙ Q.add-zero x

pub *_zero : (x : ℚ) → x ⋆ zeroℚ ≡ zeroℚ
*_zero x = own (x ⋆ zeroℚ) (sym (Q.mul-add x zeroℚ zeroℚ) ∙ ap (mulℚ x) (Q.add-zero zeroℚ))
  where
    own : (y : ℚ) → y ⊹ y ≡ y → y ≡ zeroℚ
    own y h = cc (Q.add_assoc y y (‐ y), Q.add_neg y, Q.add-zero y)

pub zero_* : (x : ℚ) → zeroℚ ⋆ x ≡ zeroℚ
zero_* x = Q.mul_comm zeroℚ x ∙ *_zero x

-- ---- negatives

-- What adds up to zero with x is its negative.
neg_only : (x y : ℚ) → x ⊹ y ≡ zeroℚ → y ≡ ‐ x
neg_only x y h = cc (Q.add_assoc (‐ x) x y, Q.add_comm (‐ x) x, Q.add_neg x, zero_+ y, Q.add-zero (‐ x))

pub neg_neg : (x : ℚ) → ‐ (‐ x) ≡ x
neg_neg x = sym (neg_only (‐ x) x (Q.add_comm (‐ x) x ∙ Q.add_neg x))

pub neg_* : (x y : ℚ) → (‐ x) ⋆ y ≡ ‐ (x ⋆ y)
neg_* x y = neg_only (x ⋆ y) ((‐ x) ⋆ y) (sym (+-* x (‐ x) y) ∙ ap (λ z. z ⋆ y) (Q.add_neg x) ∙ zero_* y)

pub *_neg : (x y : ℚ) → x ⋆ ‐ y ≡ ‐ (x ⋆ y)
*_neg x y = Q.mul_comm x (‐ y) ∙ neg_* y x ∙ ap negℚ (Q.mul_comm y x)

pub neg_+ : (x y : ℚ) → ‐ (x ⊹ y) ≡ (‐ x) ⊹ ‐ y
neg_+ x y =
    let e : (x ⊹ y) ⊹ ((‐ x) ⊹ ‐ y) ≡ (x ⊹ ‐ x) ⊹ (y ⊹ ‐ y) = simp (+_assoc, +-left) in
    sym (neg_only (x ⊹ y) ((‐ x) ⊹ ‐ y) (e ∙ cc (Q.add_neg x, Q.add_neg y, Q.add-zero zeroℚ)))

pub neg_zero : ‐ zeroℚ ≡ zeroℚ
neg_zero = sym (neg_only zeroℚ zeroℚ (Q.add-zero zeroℚ))

-- Sums of products are sorted by these,
pub ruleset sorted = (+_assoc, +_comm, +-left, *_assoc, *_comm, *-left)

-- and spread out by these.
pub ruleset spread = (*-+, +-*, *-one, one-*, *_zero, zero_*, +_zero, zero_+, neg_*, *_neg, neg_+, neg_neg, neg_zero)

-- ---- what is added and taken away again

pub add_take : (x a s : ℚ) → (x ⊹ a) ⊹ ((‐ a) ⊹ s) ≡ x ⊹ s
add_take x a s =
    let e : (x ⊹ a) ⊹ ((‐ a) ⊹ s) ≡ (a ⊹ ‐ a) ⊹ (x ⊹ s) = simp sorted in
    e ∙ ap (λ z. z ⊹ (x ⊹ s)) (Q.add_neg a) ∙ zero_+ (x ⊹ s)

pub move : (x y z w : ℚ) → x ⊹ y ≡ z ⊹ w → x ≡ z ⊹ (w ⊹ ‐ y)
move x y z w h = cc (Q.add_assoc x y (‐ y), Q.add_neg y, Q.add-zero x, Q.add_assoc z w (‐ y))

-- ---- what is not below zero

nn_raw : (x : Raw) → NonNeg (of_raw x) → x.minus ≤ x.plus
unfolding posℚ negℚ
nn_raw x h = ltb-false x.plus x.minus h

raw_nn : (x : Raw) → x.minus ≤ x.plus → NonNeg (of_raw x)
unfolding posℚ negℚ
raw_nn x h = le-ltb x.plus x.minus h

prop₂ : {P : ℚ → ℚ → Type 0} → ((q r : ℚ) → IsProp (P q r)) → ((x y : Raw) → P (of_raw x) (of_raw y)) → (q r : ℚ) → P q r
prop₂ = Quotient.ind₂ ~_setoid ~_setoid

excess : (a b : ℕ) → a ≤ b → (d : ℕ) × (b ≡ a + d)
excess a b h = (b - a, omega arith)

-- Sums and products of such are such.
pub nn_add : (q r : ℚ) → NonNeg q → NonNeg r → NonNeg (q ⊹ r)
unfolding addℚ
nn_add = prop₂ (λ q r. Π_prop (λ h. Π_prop (λ k. Bool-set _ _))) both
  where
    both : (x y : Raw) → NonNeg (of_raw x) → NonNeg (of_raw y) → NonNeg (of_raw x ⊹ of_raw y)
    both x y h k =
        let (a, e) = excess x.minus x.plus (nn_raw x h) in
        let (b, f) = excess y.minus y.plus (nn_raw y k) in
        raw_nn _ (omega (arith, ap (λ u. u * bottom y) e, ap (λ u. u * bottom x) f))

pub nn_mul : (q r : ℚ) → NonNeg q → NonNeg r → NonNeg (q ⋆ r)
unfolding mulℚ
nn_mul = prop₂ (λ q r. Π_prop (λ h. Π_prop (λ k. Bool-set _ _))) both
  where
    both : (x y : Raw) → NonNeg (of_raw x) → NonNeg (of_raw y) → NonNeg (of_raw x ⋆ of_raw y)
    both x y h k =
        let (a, e) = excess x.minus x.plus (nn_raw x h) in
        let (b, f) = excess y.minus y.plus (nn_raw y k) in
        raw_nn _ (omega (arith, ap (λ u. u * y.plus) e, ap (λ u. u * y.minus) e, ap (λ u. a * u) f))

pub nn_zero : NonNeg zeroℚ
nn_zero = raw_nn (raw 0 0 0) (omega arith)

pub nn_one : NonNeg oneℚ
nn_one = raw_nn (raw 1 0 0) (omega arith)

pub nn_frac : (a d : ℕ) → NonNeg (frac a 0 d)
nn_frac a d = raw_nn (raw a 0 d) (omega arith)

pub nn_pos : (q : ℚ) → Posℚ q → NonNeg q
unfolding posℚ
nn_pos = ind (λ q. Π_prop (λ h. Bool-set _ _)) (λ x h. raw_nn x (omega (arith, ltb-true x.minus x.plus h)))

-- What is more than a number above zero is above zero.
pub pos_more : (q r : ℚ) → Posℚ q → NonNeg r → Posℚ (q ⊹ r)
unfolding addℚ posℚ
pos_more = prop₂ (λ q r. Π_prop (λ h. Π_prop (λ k. Bool-set _ _))) both
  where
    both : (x y : Raw) → Posℚ (of_raw x) → NonNeg (of_raw y) → Posℚ (of_raw x ⊹ of_raw y)
    both x y h k =
        let l = ltb-true x.minus x.plus h in
        let (a, e) = excess (suc x.minus) x.plus l in
        let (b, f) = excess y.minus y.plus (nn_raw y k) in
        lt-ltb (add_r x y).minus (add_r x y).plus (omega (arith, ap (λ u. u * bottom y) e, ap (λ u. u * bottom x) f))

-- ---- whole numbers as fractions

pub nat_add : (a b : ℕ) → nat (a + b) ≡ nat a ⊹ nat b
unfolding addℚ bottoms
nat_add a b = sound (omega arith)

pub nat_mul : (a b : ℕ) → nat (a * b) ≡ nat a ⋆ nat b
unfolding mulℚ bottoms
nat_mul a b = sound (omega arith)

-- ---- the order: y is x and what is not below zero
infixl 50 ◌≼◌
pub record ◌≼◌ (x y : ℚ) : Type 0 where
  pub rest : ℚ
  pub is : y ≡ x ⊹ rest
  pub nonneg : NonNeg rest

pub ≼_refl : (x : ℚ) → x ≼ x
≼_refl x = record { rest = zeroℚ; is = sym (+_zero x); nonneg = nn_zero }

pub ≼-of : (x y : ℚ) → x ≡ y → x ≼ y
≼-of x y e = record { rest = zeroℚ; is = sym e ∙ sym (+_zero x); nonneg = nn_zero }

pub ≼_trans : {x y z : ℚ} → x ≼ y → y ≼ z → x ≼ z
≼_trans {x} {y} {z} h k = record {
  rest = h.rest ⊹ k.rest;
  is = k.is ∙ ap (λ q. q ⊹ k.rest) h.is ∙ +_assoc x h.rest k.rest;
  nonneg = nn_add _ _ h.nonneg k.nonneg;
}

pub ≼_add : {x y z w : ℚ} → x ≼ y → z ≼ w → x ⊹ z ≼ y ⊹ w
≼_add {x} {y} {z} {w} h k = record {
  rest = h.rest ⊹ k.rest;
  is = cc (h.is, k.is, ring x h.rest z k.rest);
  nonneg = nn_add _ _ h.nonneg k.nonneg;
}
  where
    ring : (a b c d : ℚ) → (a ⊹ b) ⊹ (c ⊹ d) ≡ (a ⊹ c) ⊹ (b ⊹ d)
    ring a b c d = simp sorted

pub ≼_mul : {x y z w : ℚ} → NonNeg x → NonNeg w → x ≼ y → z ≼ w → x ⋆ z ≼ y ⋆ w
≼_mul {x} {y} {z} {w} nx nw h k = record {
  rest = x ⋆ k.rest ⊹ h.rest ⋆ w;
  is = cc (h.is, k.is, +-* x h.rest w, *-+ x z k.rest, +_assoc (x ⋆ z) (x ⋆ k.rest) (h.rest ⋆ w));
  nonneg = nn_add _ _ (nn_mul _ _ nx k.nonneg) (nn_mul _ _ h.nonneg nw);
}

pub ≼_nn : {x y : ℚ} → NonNeg x → x ≼ y → NonNeg y
≼_nn {x} {y} n h = subst NonNeg (sym h.is) (nn_add _ _ n h.nonneg)

pub ≼_pos : {x y : ℚ} → Posℚ x → x ≼ y → Posℚ y
≼_pos {x} {y} n h = subst Posℚ (sym h.is) (pos_more _ _ n h.nonneg)

pub ≼-more : (x y : ℚ) → NonNeg y → x ≼ x ⊹ y
≼-more x y n = record { rest = y; is = refl; nonneg = n }

pub ≼-times : {x y : ℚ} (c : ℚ) → NonNeg c → x ≼ y → c ⋆ x ≼ c ⋆ y
≼-times c n h = record { rest = c ⋆ h.rest; is = ap (λ z. c ⋆ z) h.is ∙ *-+ c _ _; nonneg = nn_mul _ _ n h.nonneg }
