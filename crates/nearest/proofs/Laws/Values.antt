-- Values of a format and their order, as fractions and counted in the format's smallest values.
use Rattle.std.specs.Prelude.{◌≡◌, refl, ℕ, ◌+◌, ◌-◌, ◌*◌, ◌/◌, ◌^◌, ◌≤◌, ◌<◌, Bool, true, false, not, T, leb, Float}
use Rattle.std.proofs.Common.{sym, ap, ◌∙◌, le_trans, le_of_eq, lt_of_lt_of_le, lt_of_le_of_lt, lt_irrefl, mul_assoc, mul_comm, mul_right_comm, mul-lt-mul_of_pos_right, lt_of_mul-lt-mul_right, arith, leb→le, ltb→lt, lt→ltb, pow-add, pow_pos, pow_mono}
use Rattle.std.proofs.Math.Dec.{nleb→lt}
use Rattle.std.specs.Float.{nan, inf, fin, Format}
use Rattle.std.specs.Float.Ieee.{prec, low, up, down, size, hid, fits, lt, of_bits, to_bits}
use Rattle.std.specs.Float.Ieee.Bits.{of_bits-to_bits}
use Rattle.std.specs.Float.Ieee.Nearest.{div_same}
use Rattle.std.specs.Float.Ieee.Positive.{num, den, positive, den_pos}
use Rattle.nearest.specs.Nearest.{nonnegative}

-- ---- in smallest values: a value of the format from 2 ^ (p - 1 + k) of them on is a multiple of 2 ^ k
pub on_grid : (p k m i : ℕ) → 2 ≤ p → m < 2 ^ p → 2 ^ (p - 1) * 2 ^ k ≤ m * 2 ^ i → (j : ℕ) × (m * 2 ^ i ≡ j * 2 ^ k)
on_grid p k m i P M h = go (leb k i) (leb→le k i) (nleb→lt k i)
  where
    go : (b : Bool) → (T b → k ≤ i) → (T (not b) → i < k) → (j : ℕ) × (m * 2 ^ i ≡ j * 2 ^ k)
    go true l g =
        let k-le = l tt in
        let e : i - k + k ≡ i = omega arith in
        (m * 2 ^ (i - k), sym (mul_assoc m (2 ^ (i - k)) (2 ^ k) ∙ ap (λ (z : ℕ). m * z) (sym (pow-add 2 (i - k) k) ∙ ap (λ (z : ℕ). 2 ^ z) e)))
    go false l g =
        let i_lt = g tt in
        let wide : 2 ^ p * 2 ^ i ≤ 2 ^ (p - 1) * 2 ^ k =
        le_trans (le_of_eq (sym (pow-add 2 p i))) (le_trans (pow_mono {j = p - 1 + k} (omega arith)) (le_of_eq (pow-add 2 (p - 1) k))) in
        absurd (lt_irrefl (m * 2 ^ i) (lt_of_lt_of_le (mul-lt-mul_of_pos_right M (pow_pos i)) (le_trans wide h)))

-- A / a is w of them, B / b is z; l of them are 1
pub order-of : (l a b A B w z : ℕ) → 0 < l → A * l ≡ w * a → B * l ≡ z * b → A * b < B * a → w < z
order-of l a b A B w z L ea eb h =
    let left : A * b * l ≡ w * (a * b) = mul_right_comm A b l ∙ ap (λ (x : ℕ). x * b) ea ∙ mul_assoc w a b in
    let right : B * a * l ≡ z * (a * b) =
    mul_right_comm B a l ∙ ap (λ (x : ℕ). x * a) eb ∙ mul_assoc z b a ∙ ap (λ (x : ℕ). z * x) (mul_comm b a) in
    lt_of_mul-lt-mul_right (a * b) (lt_of_le_of_lt (le_of_eq (sym left)) (lt_of_lt_of_le (mul-lt-mul_of_pos_right h L) (le_of_eq right)))

-- ---- the order of two values is that of their fractions
pub nonnegative-of : (x : Float) → T (positive x) → T (nonnegative x)
nonnegative-of nan p = absurd p
nonnegative-of (inf s) p = absurd p
nonnegative-of (fin true m e) p = absurd p
nonnegative-of (fin false m e) p = tt

pub lt→cross : (y v : Float) → T (nonnegative y) → T (nonnegative v) → T (lt y v) → num y * den v < num v * den y
unfolding lt
lt→cross nan v p q h = absurd p
lt→cross (inf s) v p q h = absurd p
lt→cross (fin true m e) v p q h = absurd p
lt→cross (fin false m e) nan p q h = absurd q
lt→cross (fin false m e) (inf t) p q h = absurd q
lt→cross (fin false m e) (fin true n d) p q h = absurd q
lt→cross (fin false m e) (fin false n d) p q h = ltb→lt (m * up e * down d) (n * up d * down e) h

pub cross→lt : (y v : Float) → T (positive y) → T (positive v) → num y * den v < num v * den y → T (lt y v)
unfolding lt
cross→lt nan v p q h = absurd p
cross→lt (inf s) v p q h = absurd p
cross→lt (fin true m e) v p q h = absurd p
cross→lt (fin false m e) nan p q h = absurd q
cross→lt (fin false m e) (inf t) p q h = absurd q
cross→lt (fin false m e) (fin true n d) p q h = absurd q
cross→lt (fin false m e) (fin false n d) p q h = lt→ltb (m * up e * down d) (n * up d * down e) h

-- values of one size have one pattern
bits_of : (f : Format) (x : Float) → T (positive x)
    → let n = num x * 2 ^ low f / den x in to_bits f x ≡ 0 + (size n - prec f) * hid f + n / 2 ^ (size n - prec f)
unfolding to_bits
bits_of f nan p = absurd p
bits_of f (inf s) p = absurd p
bits_of f (fin true m e) p = absurd p
bits_of f (fin false m e) p = refl

pub same-value : (f : Format) (x y : Float) → T (fits f x) → T (fits f y) → T (positive x) → T (positive y) → num x * den y ≡ num y * den x → x ≡ y
same-value f x y fx fy p q e =
    let l = 2 ^ low f in
    let cross = mul_right_comm (num x) l (den y) ∙ ap (λ (z : ℕ). z * l) e ∙ mul_right_comm (num y) (den x) l in
    let s : num x * l / den x ≡ num y * l / den y = div_same (num x * l) (den x) (num y * l) (den y) (den_pos x) (den_pos y) cross in
    sym (of_bits-to_bits f x fx)
    ∙ ap (of_bits f) (bits_of f x p ∙ ap (λ (n : ℕ). 0 + (size n - prec f) * hid f + n / 2 ^ (size n - prec f)) s ∙ sym (bits_of f y q))
    ∙ of_bits-to_bits f y fy
