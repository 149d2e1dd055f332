-- The series at x = i / 128, in exact fractions, is `through i n` over `bottom n`.
use Rattle.std.specs.Prelude.{◌≡◌, refl, Bool, true, false, cond, ℕ, zero, suc, ◌+◌, ◌-◌, ◌*◌, ◌%◌, ◌^◌, ◌<◌, ltb, eqb, ℤ, pos, negsuc, neg_ℤ, ◌+ℤ◌, ◌*ℤ◌}
use Rattle.std.proofs.Common.{sym, ap, ap₂, ◌∙◌, pow-suc, mul-pos, mul-one, zero-mul, arith, lit<, ltb-true, ltb-false, lt-ltb, eqb-true}
use Rattle.std.proofs.Math.Nat.{pow-zero}
use Rattle.std.proofs.Math.IntN.{sub_ℕ}
use Rattle.std.proofs.lemmas.Bool.{eqb-false}
use Rattle.fraction.specs.Raw.{bottoms}
use Rattle.fraction.proofs.Fraction.{ℚ, frac, oneℚ, sound, addℚ, mulℚ, invℚ}
use Rattle.fraction.proofs.Laws.Fraction as F
use Rattle.house_table.specs.Series.{factorial, power, bottom, through}
use Rattle.house_table.specs.Exact.{powerℚ, termℚ, seriesℚ, plus, minus, over}

-- ---- sums and products of whole numbers by their two parts
sub_parts : (a b : ℕ) → plus (sub_ℕ a b) + b ≡ a + minus (sub_ℕ a b)
sub_parts a b = go (ltb a b) refl
  where
    go : (t : Bool) → ltb a b ≡ t → plus (cond t (negsuc (b - suc a)) (pos (a - b))) + b ≡ a + minus (cond t (negsuc (b - suc a)) (pos (a - b)))
    go true e = let l = ltb-true a b e in omega arith
    go false e = let l = ltb-false a b e in omega arith

sum-parts : (a b : ℤ) → plus (a +ℤ b) + (minus a + minus b) ≡ plus a + plus b + minus (a +ℤ b)
sum-parts (pos a) (pos b) = omega arith
sum-parts (pos a) (negsuc b) = omega (arith, sub_parts a (suc b))
sum-parts (negsuc a) (pos b) = omega (arith, sub_parts b (suc a))
sum-parts (negsuc a) (negsuc b) = omega arith

neg_plus : (n : ℕ) → plus (neg_ℤ (pos n)) ≡ 0
neg_plus zero = refl
neg_plus (suc n) = refl

neg_minus : (n : ℕ) → minus (neg_ℤ (pos n)) ≡ n
neg_minus zero = refl
neg_minus (suc n) = refl

product-parts : (a b : ℤ) → plus (a *ℤ b) + (plus a * minus b + minus a * plus b) ≡ plus a * plus b + minus a * minus b + minus (a *ℤ b)
product-parts (pos a) (pos b) = omega arith
product-parts (pos a) (negsuc b) = omega (arith, neg_plus (a * suc b), neg_minus (a * suc b))
product-parts (negsuc a) (pos b) = omega (arith, neg_plus (suc a * b), neg_minus (suc a * b))
product-parts (negsuc a) (negsuc b) = omega arith

-- ---- and so their fractions
add_raw : (a b : ℤ) (d : ℕ) → frac (plus (a +ℤ b)) (minus (a +ℤ b)) d ≡ addℚ (frac (plus a) (minus a) d) (frac (plus b) (minus b) d)
unfolding addℚ bottoms
add_raw a b d = sound (poly (plus (a +ℤ b)) (minus (a +ℤ b)) (plus a) (minus a) (plus b) (minus b) d (sum-parts a b))
  where
    poly : (P M p m q n d : ℕ) → P + (m + n) ≡ p + q + M
        → P * suc (d * d + d + d) + (m * suc d + n * suc d) * suc d ≡ (p * suc d + q * suc d) * suc d + M * suc (d * d + d + d)
    poly P M p m q n d e = omega (arith, ap (λ (u : ℕ). u * (suc d * suc d)) e)

mul_raw : (a b : ℤ) (d e : ℕ) → frac (plus (a *ℤ b)) (minus (a *ℤ b)) (bottoms d e) ≡ mulℚ (frac (plus a) (minus a) d) (frac (plus b) (minus b) e)
unfolding mulℚ
mul_raw a b d e = sound (poly (plus (a *ℤ b)) (minus (a *ℤ b)) (plus a) (minus a) (plus b) (minus b) (suc (bottoms d e)) (product-parts a b))
  where
    poly : (P M p m q n B : ℕ) → P + (p * n + m * q) ≡ p * q + m * n + M → P * B + (p * n + m * q) * B ≡ (p * q + m * n) * B + M * B
    poly P M p m q n B e = omega (arith, ap (λ (u : ℕ). u * B) e)

less_one : (b c : ℕ) → 0 < b → 0 < c → b * c - 1 ≡ bottoms (b - 1) (c - 1)
unfolding bottoms
less_one zero c B C = absurd (omega arith)
less_one (suc b) zero B C = absurd (omega arith)
less_one (suc b) (suc c) B C =
    let x : suc b - 1 ≡ b = omega arith in
    let y : suc c - 1 ≡ c = omega arith in
    let z : suc b * suc c ≡ b * c + b + c + 1 = omega arith in
    rw (x, y) (omega arith)

over_add : (a b : ℤ) (d : ℕ) → over (a +ℤ b) d ≡ addℚ (over a d) (over b d)
over_add a b d = add_raw a b (d - 1)

over_mul : (a b : ℤ) (d e : ℕ) → 0 < d → 0 < e → over (a *ℤ b) (d * e) ≡ mulℚ (over a d) (over b e)
over_mul a b d e D E = ap (frac (plus (a *ℤ b)) (minus (a *ℤ b))) (less_one d e D E) ∙ mul_raw a b (d - 1) (e - 1)

over-one : (c : ℕ) → 0 < c → over (pos c) c ≡ oneℚ
over-one c C = sound (omega arith)

over-scale : (a : ℤ) (d c : ℕ) → 0 < d → 0 < c → over (a *ℤ pos c) (d * c) ≡ over a d
over-scale a d c D C = over_mul a (pos c) d c D C ∙ ap (mulℚ (over a d)) (over-one c C) ∙ F.mul-one (over a d)

-- ---- powers
neg_product : (n m : ℕ) → neg_ℤ (pos n) *ℤ negsuc m ≡ pos (n * suc m)
neg_product zero m = rw (zero-mul (suc m))
neg_product (suc n) m = refl

power_suc : (i : ℤ) (k : ℕ) → power i (suc k) ≡ power i k *ℤ i
power_suc (pos m) k = ap pos (pow-suc m k)
power_suc (negsuc m) k = go (eqb (k % 2) 0) refl
  where
    go : (t : Bool) → eqb (k % 2) 0 ≡ t
        → cond (eqb (suc k % 2) 0) (pos (suc m ^ suc k)) (neg_ℤ (pos (suc m ^ suc k))) ≡ cond t (pos (suc m ^ k)) (neg_ℤ (pos (suc m ^ k))) *ℤ negsuc m
    go true e =
        let even = eqb-true (k % 2) 0 e in
        let o : suc k % 2 ≡ 1 = omega arith in
        rw o (ap (λ (n : ℕ). neg_ℤ (pos n)) (pow-suc (suc m) k))
    go false e =
        let odd = eqb-false (k % 2) 0 e in
        let o : suc k % 2 ≡ 0 = omega (arith, odd) in
        rw o (ap pos (pow-suc (suc m) k) ∙ sym (neg_product (suc m ^ k) m))

power_zero : (i : ℤ) → power i 0 ≡ pos 1
power_zero (pos m) = ap pos (pow-zero m)
power_zero (negsuc m) = ap pos (pow-zero (suc m))

grid_pos : (k : ℕ) → 0 < 128 ^ k
grid_pos zero = lit< tt
grid_pos (suc k) = let h = grid_pos k in rw (pow-suc 128 k) (omega arith)

factorial_pos : (k : ℕ) → 0 < factorial k
unfolding factorial
factorial_pos zero = lit< tt
factorial_pos (suc k) = mul-pos (factorial_pos k) (omega arith)

bottom-above : (k : ℕ) → 0 < bottom k
unfolding bottom
bottom-above k = mul-pos (grid_pos k) (factorial_pos k)

power-is : (i : ℤ) (k : ℕ) → over (power i k) (128 ^ k) ≡ powerℚ (over i 128) k
unfolding powerℚ
power-is i zero = ap (λ (z : ℤ). over z 1) (power_zero i)
power-is i (suc k) =
    ap₂ over (power_suc i k) (pow-suc 128 k)
    ∙ over_mul (power i k) i (128 ^ k) 128 (grid_pos k) (lit< tt)
    ∙ ap (λ (x : ℚ). mulℚ x (over i 128)) (power-is i k)

-- ---- terms, and their sum
inverse : (f : ℕ) → 0 < f → invℚ (frac f 0 0) ≡ over (pos 1) f
unfolding invℚ
inverse f h = rw (lt-ltb 0 f h)

times-one : (z : ℤ) → z *ℤ pos 1 ≡ z
times-one (pos n) = ap pos (mul-one n)
times-one (negsuc n) = ap (λ (m : ℕ). neg_ℤ (pos m)) (mul-one (suc n))

term_is : (i : ℤ) (k : ℕ) → over (power i k) (bottom k) ≡ termℚ (over i 128) k
unfolding bottom
term_is i k =
    ap (λ (z : ℤ). over z (128 ^ k * factorial k)) (sym (times-one (power i k)))
    ∙ over_mul (power i k) (pos 1) (128 ^ k) (factorial k) (grid_pos k) (factorial_pos k)
    ∙ ap₂ mulℚ (power-is i k) (sym (inverse (factorial k) (factorial_pos k)))

bottom_suc : (n : ℕ) → bottom (suc n) ≡ bottom n * (128 * suc n)
unfolding bottom factorial
bottom_suc n = rw (pow-suc 128 n) (omega arith)

pub series_is : (i : ℤ) (n : ℕ) → over (through i n) (bottom n) ≡ seriesℚ (over i 128) n
unfolding through seriesℚ
series_is i zero = ap (λ (z : ℤ). over z (bottom 0)) (sym (power_zero i)) ∙ term_is i 0
series_is i (suc n) =
    over_add (through i n *ℤ pos (128 * suc n)) (power i (suc n)) (bottom (suc n))
    ∙ ap₂ addℚ
    (ap (over (through i n *ℤ pos (128 * suc n))) (bottom_suc n)
    ∙ over-scale (through i n) (bottom n) (128 * suc n) (bottom-above n) (omega arith)
    ∙ series_is i n)
    (term_is i (suc n))
