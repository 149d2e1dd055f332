-- Fractions of whole numbers by size, and doubles that are no larger than others.
use Rattle.std.specs.Prelude.{◌≡◌, Bool, true, false, cond, ℕ, ◌+◌, ◌*◌, ◌-◌, ◌^◌, ◌≤◌, ◌<◌, T, Float}
use Rattle.std.proofs.Common.{sym, ◌∙◌, ap, subst₂, subst, mul_comm, arith, lt-ltb, lit≤, pow_pos}
use Rattle.std.specs.Float.{nan, inf, fin}
use Rattle.std.specs.Float.Ieee.{up, down}
use Rattle.std.specs.Float.Ieee.Fits.{down_pos}
use Rattle.std.specs.Float.Ieee.Scale.{finite}
use Rattle.std.specs.Float.Ieee.Positive.{num, den}
use Rattle.rounding.specs.Laws.Sign.{not_minus}
use Rattle.rounding.specs.Laws.Under as Order
use Rattle.fraction.proofs.Fraction.{ℚ, frac, oneℚ, invℚ, posℚ, Posℚ}
use Rattle.fraction.proofs.Laws.Fraction.{pos_inv, mul_inv_pos, add_neg, pos_mul}
use Rattle.fraction.proofs.Value.{value}
use Rattle.accuracy.specs.Ring.{NonNeg, nat}
use Rattle.accuracy.proofs.Laws.Ring.{◌⊹◌, ◌⋆◌, ‐◌, ◌≼◌, ≼-times, nat_add, nn_frac, nn_mul, nn_pos, +-*, +_comm, +_assoc, zero_+, one-*}
use Rattle.accuracy.proofs.Laws.Ring.{*_assoc, *_comm}
use Rattle.accuracy.proofs.Within.{Within}
use Rattle.accuracy.proofs.Laws.Within.{within_nonneg, within_neg, within_mono}
use Rattle.accuracy.proofs.Laws.Rounds.{signed_is, parts}
use Rattle.accuracy.specs.Laws.Rounds.{smallest}
use Rattle.accuracy.proofs.Laws.Operations.{value-signed, mul_signed}

-- ---- fractions

-- A factor above zero can be taken off both sides.
pub cancel : (c x y : ℚ) → Posℚ c → c ⋆ x ≼ c ⋆ y → x ≼ y
cancel c x y p h =
    let i = invℚ c in
    let e : (z : ℚ) → i ⋆ (c ⋆ z) ≡ z = λ z. sym (*_assoc i c z) ∙ ap (λ w. w ⋆ z) (*_comm i c ∙ mul_inv_pos c p) ∙ one-* z in
    subst₂ ◌≼◌ (e x) (e y) (≼-times i (nn_pos i (pos_inv c p)) h)

pub pos_cancel : (c x : ℚ) → Posℚ c → Posℚ (c ⋆ x) → Posℚ x
pos_cancel c x p h =
    let i = invℚ c in
    subst Posℚ (sym (*_assoc i c x) ∙ ap (λ w. w ⋆ x) (*_comm i c ∙ mul_inv_pos c p) ∙ one-* x) (pos_mul i (c ⋆ x) (pos_inv c p) h)

pub above-nat : (n : ℕ) → 0 < n → Posℚ (nat n)
unfolding posℚ
above-nat n h = lt-ltb 0 n h

-- Equal sums with equal first terms have equal second terms.
pub same : (a b c : ℚ) → a ⊹ b ≡ a ⊹ c → b ≡ c
same a b c h = cc (+_assoc (‐ a) a b, +_assoc (‐ a) a c, +_comm (‐ a) a, add_neg a, zero_+ b, zero_+ c)

pub nat_mono : (m n : ℕ) → m ≤ n → nat m ≼ nat n
nat_mono m n h = let e : n ≡ m + (n - m) = omega arith in record { rest = nat (n - m); is = ap nat e ∙ nat_add m (n - m); nonneg = nn_frac (n - m) 0 }

pub frac_mul : (a b c d : ℕ) → 0 < c → 0 < d → frac a 0 (c - 1) ⋆ frac b 0 (d - 1) ≡ frac (a * b) 0 (c * d - 1)
frac_mul a b c d C D = mul_signed false false a b c d C D

-- The order of fractions, by whole numbers.
pub frac-≼ : (a c b d : ℕ) → 0 < c → 0 < d → a * d ≤ b * c → frac a 0 (c - 1) ≼ frac b 0 (d - 1)
frac-≼ a c b d C D h =
    let P = frac 1 0 (c * d - 1) in
    let x : frac a 0 (c - 1) ≡ nat (a * d) ⋆ P = parts a c d C D in
    let y : frac b 0 (d - 1) ≡ nat (b * c) ⋆ P = parts b d c D C ∙ ap (λ (n : ℕ). nat (b * c) ⋆ frac 1 0 (n - 1)) (mul_comm d c) in
    let e : b * c ≡ a * d + (b * c - a * d) = omega arith in
    record {
      rest = nat (b * c - a * d) ⋆ P;
      is = y ∙ ap (λ z. z ⋆ P) (ap nat e ∙ nat_add (a * d) (b * c - a * d)) ∙ +-* _ _ P ∙ ap (λ z. z ⊹ nat (b * c - a * d) ⋆ P) (sym x);
      nonneg = nn_mul _ _ (nn_frac (b * c - a * d) 0) (nn_frac 1 (c * d - 1));
    }

pub smallest-one : smallest ≼ oneℚ
unfolding smallest
smallest-one = frac-≼ 1 (2 ^ 1022) 1 1 (pow_pos 1022) (pow_pos 0) (lit≤ tt)

-- ---- doubles: no larger in size

-- A double that is under another is no larger in size.
pub under-within : (x y : Float) → Order.Under x y → T (finite y) → Within (value x) (value y)
under-within x y u f = go x y u.sign (u.size f).is_finite f (u.size f).at_most
  where
    own : (s : Bool) (q r : ℚ) → NonNeg q → q ≼ r → Within (cond s (‐ q) q) r
    own true q r n h = within_neg (within_mono (within_nonneg q n) h)
    own false q r n h = within_mono (within_nonneg q n) h

    go : (x y : Float) → T (not_minus y) → T (finite x) → T (finite y) → num x * den y ≤ num y * den x → Within (value x) (value y)
    go nan y s f h l = absurd f
    go (inf t) y s f h l = absurd f
    go (fin t m e) nan s f h l = absurd h
    go (fin t m e) (inf r) s f h l = absurd h
    go (fin t m e) (fin true n d) s f h l = absurd s
    go (fin t m e) (fin false n d) s f h l =
        subst₂ Within (sym (value-signed t m e ∙ signed_is t (m * up e) (down e))) (sym (value-signed false n d))
        (own t (frac (m * up e) 0 (down e - 1)) (frac (n * up d) 0 (down d - 1)) (nn_frac (m * up e) (down e - 1))
        (frac-≼ (m * up e) (down e) (n * up d) (down d) (down_pos e) (down_pos d) l))
