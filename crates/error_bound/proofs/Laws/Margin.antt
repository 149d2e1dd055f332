-- The tests that the code makes of factors, in the machine's own terms, and that they are those of the theorem; and the laws of its arithmetic.
use Rattle.std.specs.Prelude.{◌≡◌, refl, true, false, cond, not, ◌&&◌, List, ℕ, ◌+◌, ◌*◌, ◌-◌, ◌/◌, ◌^◌, ◌≤◌, ◌<◌, pos, T, leb, eqb, length, get_or, Float}
use Rattle.std.proofs.Common.{sym, ◌∙◌, ap, subst, true≢false, mul_assoc, mul-pos, le_of_lt, mul-le-mul, mul-one, div-mul-le_self, mul-le-mul_right, arith, lit<, le→leb, pow-add, pow_mono, pow_pos}
use Rattle.std.proofs.Math.Nat.{min-le_left, min-le_right}
use Rattle.std.proofs.lemmas.Bool.{not-false, not-true}
use Rattle.std.proofs.Math.Pow.{pow-lt}
use Rattle.std.specs.Float.{nan, inf, fin, binary64}
use Rattle.std.specs.Float.Ieee.{up, down, div, round, of_int, of_bits, le}
use Rattle.std.specs.Float.Ieee.Exact.{HasValue, round_exact}
use Rattle.std.specs.Float.Ieee.Scale.{round_same}
use Rattle.std.specs.Float.Ieee.Back.{round_whole}
use Rattle.std.specs.Float.Ieee.Fits.{down_pos, and_i, and_l, and_r}
use Rattle.std.specs.Float.Ieee.Positive.{num, den, positive, own_value, values_of_le, positive_of_value, first_pos}
use Rattle.list_laws.proofs.Laws.Search.{none-at}
use Rattle.accuracy.proofs.Laws.Operations.{dividing}
use Rattle.accuracy.specs.Stated.{depth, within_powers}
use Rattle.error_bound.specs.Bound.{most_bits, power_of, inside_powers, near_one}

-- ---- the bound

-- what the roundings of all steps come to
pub record Counted (n w near : ℕ) : Type 0 where
  pub steps : 2 * (near + 5) * n ≤ 18432
  pub sum : 2 ^ w ≤ 16777216

pub counted : (n w near : ℕ) → n ≤ 1024 → w ≤ 24 → near ≤ 4 → Counted n w near
counted n w near a b c = let q : 2 * (near + 5) ≤ 18 = omega arith in record { steps = mul-le-mul q a; sum = pow_mono b }

-- ---- the most binary digits

deep_enough : (w near d : ℕ) → w ≤ 24 → d ≡ (near + 1) * (2 * w + 8) → depth ((965 - w) / d) near w ≤ 1022
deep_enough w near d h e =
    let q = div-mul-le_self (965 - w) d in
    let x : (965 - w) / d * (near + 1) * (2 * w + 8) ≡ (965 - w) / d * d = mul_assoc _ (near + 1) (2 * w + 8) ∙ ap (λ z. (965 - w) / d * z) (sym e) in
    omega arith

pub divisor-small : (w near : ℕ) → w ≤ 24 → near ≤ 4 → (near + 1) * (2 * w + 8) ≤ 280
divisor-small w near h k = let a : near + 1 ≤ 5 = omega arith in let b : 2 * w + 8 ≤ 56 = omega arith in mul-le-mul a b

fewer_bits : (k b near w : ℕ) → k ≤ b → depth b near w ≤ 1022 → depth k near w ≤ 1022
fewer_bits k b near w h l = let q = mul-le-mul_right (2 * w + 8) (mul-le-mul_right (near + 1) h) in omega arith

-- they leave room, and a power of two with so many is a double
pub bits_deep : (w near : ℕ) → w ≤ 24 → depth (most_bits w near) near w ≤ 1022
bits_deep w near h =
    fewer_bits (most_bits w near) ((965 - w) / ((near + 1) * (2 * w + 8))) near w (min-le_right 52 _) (deep_enough w near _ h refl)

pub bits-few : (w near : ℕ) → most_bits w near < 53
bits-few w near = omega (arith, min-le_left 52 ((965 - w) / ((near + 1) * (2 * w + 8))))

-- ---- the factors

power-value : (bits : ℕ) → bits < 53 → HasValue (power_of bits) false (2 ^ bits) 1
unfolding of_int
power-value bits h = round_whole binary64 false (2 ^ bits) (le_of_lt (pow-lt {j = 53} h))

one-over : (x : Float) (bits : ℕ) → bits < 53 → HasValue x false (2 ^ bits) 1 → HasValue (div binary64 (of_bits binary64 0x3ff0_0000_0000_0000) x) false 1 (2 ^ bits)
unfolding div of_bits
one-over nan bits h v = absurd v
one-over (inf t) bits h v = absurd v
one-over (fin true m e) bits h v = absurd (true≢false v.0)
one-over (fin false m e) bits h v =
    let N : 0 < m = first_pos m (up e) (subst (λ z. 0 < z) (sym v.1 ∙ mul-one (m * up e)) (mul-pos (pow_pos bits) (down_pos e))) in
    let a = 1 * 1 * down e in
    let c = m * up e * 1 in
    let is : div binary64 (fin false 1 (pos 0)) (fin false m e) ≡ round binary64 false 1 (2 ^ bits) =
    dividing m (cond (eqb 1 0) nan (inf false)) (round binary64 false a c) N
    ∙ round_same binary64 false a c 1 (2 ^ bits) (subst (λ z. 0 < z) (sym v.1) (mul-pos (pow_pos bits) (down_pos e))) (pow_pos bits) (turn (down e) c (2 ^ bits) v.1) in
    subst (λ (z : Float). HasValue z false 1 (2 ^ bits)) (sym is)
    (round_exact binary64 false 1 (2 ^ bits) 1 (1074 - bits) (pow_pos bits) (lit< tt)
    (le_lt (2 ^ (1074 - bits)) (2 ^ 1074) (2 ^ 2098) (pow_mono (let l : 1074 - bits ≤ 1074 = omega arith in l)) (lit< tt)) (whole bits (omega arith)))
  where
    turn : (d c p : ℕ) → c ≡ p * d → 1 * 1 * d * p ≡ 1 * c
    turn d c p e = omega arith

    le_lt : (a b c : ℕ) → a ≤ b → b < c → 1 * a < c
    le_lt a b c h k = omega arith

    whole : (b : ℕ) → b ≤ 1074 → 1 * 2 ^ 1074 ≡ 1 * 2 ^ (1074 - b) * 2 ^ b
    whole b l =
        let e : 1074 - b + b ≡ 1074 = omega arith in
        ap (λ z. 1 * 2 ^ z) (sym e) ∙ ap (λ z. 1 * z) (pow-add 2 (1074 - b) b) ∙ sym (mul_assoc 1 (2 ^ (1074 - b)) (2 ^ b))

pub inside-within : (bits : ℕ) → bits < 53 → (x : Float) → T (positive x) → inside_powers bits x ≡ true → T (within_powers bits x)
inside-within bits h x p e =
    let P = power_of bits in
    let L = div binary64 (of_bits binary64 0x3ff0_0000_0000_0000) P in
    let v = power-value bits h in
    let u = one-over P bits h v in
    let both : T (le x P && le L x) = subst T (sym e) tt in
    let a = values_of_le x P (num x) (den x) (2 ^ bits) 1 p (positive_of_value P (2 ^ bits) 1 v (pow_pos bits)) (own_value x p) v (and_l (le x P) (le L x) both) in
    let b = values_of_le L x 1 (2 ^ bits) (num x) (den x) (positive_of_value L 1 (2 ^ bits) u (lit< tt)) p u (own_value x p) (and_r (le x P) (le L x) both) in
    and_i (leb (den x) (num x * 2 ^ bits)) (leb (num x) (den x * 2 ^ bits)) (le→leb (den x) (num x * 2 ^ bits) (low (den x) (num x * 2 ^ bits) b))
    (le→leb (num x) (den x * 2 ^ bits) (high (num x) (2 ^ bits) (den x) a))
  where
    low : (d m : ℕ) → 1 * d ≤ m → d ≤ m
    low d m h = omega arith

    high : (n p d : ℕ) → n * 1 ≤ p * d → n ≤ d * p
    high n p d h = omega arith

pub near-one-all : (bits : ℕ) → bits < 53 → (factors : List Float) → near_one bits factors ≡ true → (e : ℕ) → e < length factors → T (positive (get_or factors e nan))
    → T (within_powers bits (get_or factors e nan))
near-one-all bits h factors n e l p =
    inside-within bits h (get_or factors e nan) p (not-false _ (none-at (λ e. not (inside_powers bits (get_or factors e nan))) (length factors) e l (not-true _ n)))
