-- Laws of what specs/Rounds defines.
use Rattle.std.specs.Prelude.{◌≡◌, refl, ◌⊎◌, Bool, true, false, cond, ℕ, suc, ◌+◌, ◌*◌, ◌-◌, ◌^◌, ◌≤◌, ◌<◌, T, ltb, Float}
use Rattle.std.proofs.Common.{sym, ◌∙◌, subst, inl, inr, mul-pos, mul_comm, mul_left_comm, one-mul, arith, ltb→lt, lit≤, pow_pos}
use Rattle.std.proofs.Math.Path.{ap, ap₂}
use Rattle.std.specs.Float.{inf, Format}
use Rattle.std.specs.Float.Ieee.{binary64, prec, low, up, down, odd, units, round}
use Rattle.std.specs.Float.Ieee.Exact.{HasValue, units_val}
use Rattle.std.specs.Float.Ieee.Fits.{round_is}
use Rattle.std.specs.Float.Ieee.Order.{drop, kept}
use Rattle.std.specs.Float.Ieee.Scale.{finite, grid, overflow}
use Rattle.fraction.specs.Raw.{bottoms}
use Rattle.fraction.proofs.Fraction.{ℚ, frac, zeroℚ, oneℚ, sound, mulℚ, negℚ, posℚ, Posℚ}
use Rattle.fraction.proofs.Value.{value}
use Rattle.fraction.proofs.Laws.Value.{value-plus, value-minus}
use Rattle.accuracy.specs.Ring.{NonNeg, nat}
use Rattle.accuracy.proofs.Laws.Ring.{◌⊹◌, ◌⋆◌, ‐◌, nat_add, nat_mul, ◌≼◌, ≼_trans, sorted, spread, nn_frac, nn_mul, ≼-times, move}
use Rattle.accuracy.proofs.Laws.Ring.{+_zero, +-*, one-*, neg_+, neg_neg}
use Rattle.accuracy.proofs.Within.{Within}
use Rattle.accuracy.proofs.Laws.Within.{within-≼, within_neg, within_mono}
use Rattle.rounding.proofs.Laws.Grid.{Off, off}
use Rattle.accuracy.specs.Rounds.{ε}
use Rattle.accuracy.specs.Laws.Rounds.{smallest}

-- z is q, rounded: the error, and how large it is where q is at most M and M not below the smallest normal double.
pub record Rounds (z : Float) (q : ℚ) : Type 0 where
  pub error : ℚ
  pub is : value z ≡ q ⊹ error
  pub small : (M : ℚ) → Within q M → smallest ≼ M → Within error (ε ⋆ M)

-- ---- fractions of one bottom

-- a / c with a sign.
abbrev pub signed : Bool → ℕ → ℕ → ℚ
signed s a c = cond s (frac 0 a (c - 1)) (frac a 0 (c - 1))

pub signed_is : (s : Bool) (a c : ℕ) → signed s a c ≡ cond s (‐ (frac a 0 (c - 1))) (frac a 0 (c - 1))
unfolding negℚ
signed_is true a c = refl
signed_is false a c = refl

pub suc_before : (n : ℕ) → 0 < n → suc (n - 1) ≡ n
suc_before n h = omega arith

same-frac : (a d b e : ℕ) → a * suc e ≡ b * suc d → frac a 0 d ≡ frac b 0 e
same-frac a d b e h = sound (omega arith)

pub frac-nat : (a d : ℕ) → frac a 0 d ≡ nat a ⋆ frac 1 0 d
unfolding mulℚ bottoms
frac-nat a d = sound (omega arith)

-- a / c is a d parts of 1 / (c d).
pub parts : (a c d : ℕ) → 0 < c → 0 < d → frac a 0 (c - 1) ≡ nat (a * d) ⋆ frac 1 0 (c * d - 1)
parts a c d C D =
    let x : suc (c - 1) ≡ c = omega arith in
    let P = mul-pos C D in
    let y : suc (c * d - 1) ≡ c * d = suc_before (c * d) P in
    same-frac a (c - 1) (a * d) (c * d - 1) (ap (λ (z : ℕ). a * z) y ∙ order a c d ∙ ap (λ (z : ℕ). a * d * z) (sym x)) ∙ frac-nat (a * d) (c * d - 1)
  where
    order : (a c d : ℕ) → a * (c * d) ≡ a * d * c
    order a c d = omega arith

-- ---- the value of a rounded fraction

units_under : (f : Format) (s : Bool) (q k : ℕ) → T (finite (units f s q k)) → q * 2 ^ k < overflow f
unfolding units
units_under f s q k = go (ltb (q * 2 ^ k) (overflow f)) (ltb→lt (q * 2 ^ k) (overflow f))
  where
    go : (b : Bool) → (T b → q * 2 ^ k < overflow f) → T (finite (cond b (odd (suc (prec f)) s q k (low f)) (inf s))) → q * 2 ^ k < overflow f
    go true h t = h tt
    go false h t = absurd t

signed-value : (x : Float) (s : Bool) (n d : ℕ) → HasValue x s n d → 0 < d → value x ≡ signed s n d
signed-value x true n d h D = value-minus x n d h D
signed-value x false n d h D = value-plus x n d h D

round_value : (f : Format) (s : Bool) (a c : ℕ) → T (finite (round f s a c)) → value (round f s a c) ≡ signed s (grid f a c) (2 ^ low f)
round_value f s a c h =
    let q = kept (prec f) (a * 2 ^ low f) c in
    let k = drop (prec f) (a * 2 ^ low f) c in
    let u = units_under f s q k (subst (λ (z : Float). T (finite z)) (round_is f s a c) h) in
    ap value (round_is f s a c) ∙ signed-value (units f s q k) s (q * 2 ^ k) (2 ^ low f) (units_val f s q k u) (pow_pos (low f))

-- ---- the error of one rounding

-- d of the parts i are no more than e times n of them, where d P is at most n and e is one over P.
part_of : (d P n : ℕ) (e i : ℚ) → NonNeg e → NonNeg i → nat P ⋆ e ≡ oneℚ → d * P ≤ n → nat d ⋆ i ≼ e ⋆ (nat n ⋆ i)
part_of d P n e i E I one h = record {
  rest = e ⋆ (nat (n - d * P) ⋆ i);
  is =
      ap (λ x. e ⋆ (x ⋆ i)) (ap nat split ∙ nat_add (d * P) (n - d * P) ∙ ap (λ x. x ⊹ nat (n - d * P)) (nat_mul d P))
      ∙ ring (nat d) (nat P) (nat (n - d * P))
      ∙ ap (λ x. x ⋆ (nat d ⋆ i) ⊹ e ⋆ (nat (n - d * P) ⋆ i)) one
      ∙ ap (λ x. x ⊹ e ⋆ (nat (n - d * P) ⋆ i)) (one-* (nat d ⋆ i));
  nonneg = nn_mul _ _ E (nn_mul _ _ (nn_frac (n - d * P) 0) I);
}
  where
    split : n ≡ d * P + (n - d * P)
    split = omega arith

    ring : (D Q S : ℚ) → e ⋆ ((D ⋆ Q ⊹ S) ⋆ i) ≡ (Q ⋆ e) ⋆ (D ⋆ i) ⊹ e ⋆ (S ⋆ i)
    ring D Q S = simp (spread, sorted)

pub ε_nn : NonNeg ε
unfolding ε
ε_nn = nn_frac 1 _

pub ε_pos : Posℚ ε
unfolding ε posℚ
ε_pos = refl

pub ε-one : nat (2 ^ 53) ⋆ ε ≡ oneℚ
unfolding ε mulℚ bottoms
ε-one = same-frac _ _ 1 0 refl

-- In parts i, g is n and hi - lo: that error is at most ε M.
error-within : (n c g : ℕ) (i M : ℚ) → NonNeg i → (o : Off 53 n c g) → nat n ⋆ i ≼ M → nat (c * 2 ^ 52) ⋆ i ≼ M
    → Within (nat o.hi ⋆ i ⊹ ‐ (nat o.lo ⋆ i)) (ε ⋆ M)
error-within n c g i M I o h k =
    within_mono (record {
      up = nat o.hi ⋆ i;
      down = nat o.lo ⋆ i;
      slack = zeroℚ;
      is = refl;
      most = sym (+_zero _);
      up_nn = nn_mul _ _ (nn_frac o.hi 0) I;
      down_nn = nn_mul _ _ (nn_frac o.lo 0) I;
      slack_nn = nn_frac 0 0;
    }) (subst (λ x. x ≼ ε ⋆ M) (ap (λ x. x ⋆ i) (nat_add o.hi o.lo) ∙ +-* (nat o.hi) (nat o.lo) i) (go o.small))
  where
    go : (((o.hi + o.lo) * 2 ^ 53 ≤ n) ⊎ ((o.hi + o.lo) * 2 ^ 53 ≤ c * 2 ^ 52)) → nat (o.hi + o.lo) ⋆ i ≼ ε ⋆ M
    go (inl l) = ≼_trans (part_of (o.hi + o.lo) (2 ^ 53) n ε i ε_nn I ε-one l) (≼-times ε ε_nn h)
    go (inr l) = ≼_trans (part_of (o.hi + o.lo) (2 ^ 53) (c * 2 ^ 52) ε i ε_nn I ε-one l) (≼-times ε ε_nn k)

-- g parts are n parts and the error.
off-is : (n c g : ℕ) (i : ℚ) (o : Off 53 n c g) → nat (g * c) ⋆ i ≡ nat n ⋆ i ⊹ (nat o.hi ⋆ i ⊹ ‐ (nat o.lo ⋆ i))
off-is n c g i o =
    let x : nat (g * c) ⊹ nat o.lo ≡ nat n ⊹ nat o.hi = sym (nat_add (g * c) o.lo) ∙ ap nat o.is ∙ nat_add n o.hi in
    let y : nat (g * c) ⋆ i ⊹ nat o.lo ⋆ i ≡ nat n ⋆ i ⊹ nat o.hi ⋆ i =
    sym (+-* (nat (g * c)) (nat o.lo) i) ∙ ap (λ z. z ⋆ i) x ∙ +-* (nat n) (nat o.hi) i in
    move (nat (g * c) ⋆ i) (nat o.lo ⋆ i) (nat n ⋆ i) (nat o.hi ⋆ i) y

module _ (c : ℕ) (C : 0 < c) where
  part : ℚ
  part = frac 1 0 (c * 2 ^ 1074 - 1)

  part_nn : NonNeg part
  unfolding part
  part_nn = nn_frac 1 (c * 2 ^ 1074 - 1)

  top-parts : (a : ℕ) → frac a 0 (c - 1) ≡ nat (a * 2 ^ 1074) ⋆ part
  unfolding part
  top-parts a = parts a c (2 ^ 1074) C (pow_pos 1074)

  grid_parts : (g : ℕ) → frac g 0 (2 ^ 1074 - 1) ≡ nat (g * c) ⋆ part
  unfolding part
  grid_parts g = parts g (2 ^ 1074) c (pow_pos 1074) C ∙ ap (λ (n : ℕ). nat (g * c) ⋆ frac 1 0 (n - 1)) (mul_comm (2 ^ 1074) c)

  smallest-parts : smallest ≡ nat (c * 2 ^ 52) ⋆ part
  unfolding part smallest
  smallest-parts =
      parts 1 (2 ^ 1022) (c * 2 ^ 52) (pow_pos 1022) (mul-pos C (pow_pos 52))
      ∙ ap₂ (λ (m n : ℕ). nat m ⋆ frac 1 0 (n - 1)) (one-mul (c * 2 ^ 52)) (mul_left_comm (2 ^ 1022) c (2 ^ 52))

  module _ (a : ℕ) where
    n : ℕ
    n = a * 2 ^ 1074

    o : Off 53 n c (grid binary64 a c)
    unfolding n
    o = off 53 n c (lit≤ tt) C

    err : ℚ
    err = nat o.hi ⋆ part ⊹ ‐ (nat o.lo ⋆ part)

    plain : frac (grid binary64 a c) 0 (2 ^ 1074 - 1) ≡ frac a 0 (c - 1) ⊹ err
    unfolding err n
    plain = grid_parts (grid binary64 a c) ∙ off-is n c (grid binary64 a c) part o ∙ ap (λ x. x ⊹ err) (sym (top-parts a))

    err_small : (M : ℚ) → frac a 0 (c - 1) ≼ M → smallest ≼ M → Within err (ε ⋆ M)
    unfolding err n
    err_small M h k =
        error-within n c (grid binary64 a c) part M part_nn o
        (subst (λ x. x ≼ M) (top-parts a) h) (subst (λ x. x ≼ M) smallest-parts k)

    -- So a rounded fraction, with either sign, is a rounding of it.
    pub round_rounds : (s : Bool) → T (finite (round binary64 s a c)) → Rounds (round binary64 s a c) (signed s a c)
    round_rounds true h = record {
      error = ‐ err;
      is = round_value binary64 true a c h ∙ signed_is true (grid binary64 a c) (2 ^ 1074)
          ∙ ap negℚ plain ∙ neg_+ (frac a 0 (c - 1)) err ∙ ap (λ x. x ⊹ ‐ err) (sym (signed_is true a c));
      small = λ M h k. within_neg (err_small M
          (subst (λ x. x ≼ M) (neg_neg (frac a 0 (c - 1))) (within-≼ (within_neg (subst (λ x. Within x M) (signed_is true a c) h)))) k);
    }
    round_rounds false h = record {
      error = err;
      is = round_value binary64 false a c h ∙ plain;
      small = λ M h k. err_small M (within-≼ h) k;
    }

pub smallest_nn : NonNeg smallest
unfolding smallest
smallest_nn = nn_frac 1 _

pub smallest_pos : Posℚ smallest
unfolding smallest posℚ
smallest_pos = refl
