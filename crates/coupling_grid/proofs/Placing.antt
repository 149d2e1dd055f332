-- On the grid 128 x is a whole number ±k, and 512 more is the place 512 ± k: neither operation rounds anything away.
use Rattle.std.proofs.Common.{◌≡◌, ℕ, ◌+◌, ◌-◌, ◌*◌, ◌^◌, ◌<◌, ◌≤◌, Bool, true, false, cond, T, ltb, pos, sym, refl, ap, ◌∙◌, subst, true≢false, mul-pos, mul-one, arith, lit<, lit≤, ltb-false, le-ltb}
use lib.Ieee.{Float, nan, inf, fin, binary64, up, down, add, sum, round, of_int, of_bits, in_unsigned, to_unsigned}
use lib.Ieee.Exact.{HasValue}
use lib.Ieee.Fits.{down_pos}
use lib.Ieee.Back.{round_whole, unsigned_back}
use lib.Ieee.Scale.{round_same}
use Rattle.rounding.proofs.Laws.Scaled.{castable}
use Rattle.coupling_grid.specs.Grid.{At, place_of, off_grid}
use Rattle.coupling_grid.proofs.Theorems.{place-only}
use Rattle.coupling_grid.proofs.Product.{times128, product_is}

-- x * 128.0 + 512.0, as the code has it
abbrev pub shifted : Float → Float
shifted x = add binary64 (times128 x) (of_bits binary64 0x4080_0000_0000_0000)

-- ---- the product
times-value : (x : Float) (s : Bool) (k : ℕ) → HasValue x s k 128 → k ≤ 512 → HasValue (times128 x) s k 1
times-value nan s k v h = absurd v
times-value (inf t) s k v h = absurd v
times-value (fin t m e) s k v h =
    subst (λ (y : Float). HasValue y s k 1)
    (sym (product_is t m e ∙ ap (λ (b : Bool). round binary64 b (m * up e * 128) (down e)) v.0
    ∙ round_same binary64 s (m * up e * 128) (down e) k 1 (down_pos e) (lit< tt) (mul-one (m * up e * 128) ∙ v.1)))
    (round_whole binary64 s k (let l : 512 ≤ 2 ^ 53 = lit≤ tt in omega arith))

-- ---- the sum: m * 2 ^ e is k, and the fraction is over d
rest : (a d k : ℕ) → k ≤ 512 → a ≡ k * d → (512 * d - a ≡ (512 - k) * d) × (a ≤ 512 * d)
rest a d k h e = go (512 - k) (omega arith)
  where
    go : (j : ℕ) → j + k ≡ 512 → (512 * d - a ≡ j * d) × (a ≤ 512 * d)
    go j q = let r = ap (λ (z : ℕ). z * d) q in (omega arith, omega arith)

-- the sum of -k and 512, from its fractions over c, which is d
below : (a d c k : ℕ) → 0 < c → k ≤ 512 → a ≡ k * d → c ≡ d
    → cond (ltb a (512 * d)) (round binary64 false (512 * d - a) c) (round binary64 (ltb (512 * d) a) (a - 512 * d) c) ≡ round binary64 false (512 - k) 1
below a d c k C h e i = go (ltb a (512 * d)) refl
  where
    same : round binary64 false (512 * d - a) c ≡ round binary64 false (512 - k) 1
    same =
        round_same binary64 false (512 * d - a) c (512 - k) 1 C (lit< tt)
        (mul-one (512 * d - a) ∙ (rest a d k h e).0 ∙ ap (λ (z : ℕ). (512 - k) * z) (sym i))

    go : (t : Bool) → ltb a (512 * d) ≡ t
        → cond t (round binary64 false (512 * d - a) c) (round binary64 (ltb (512 * d) a) (a - 512 * d) c) ≡ round binary64 false (512 - k) 1
    go true q = same
    go false q =
        let l = ltb-false a (512 * d) q in
        let u = (rest a d k h e).1 in
        let z : a - 512 * d ≡ 512 * d - a = omega arith in
        rw (le-ltb (512 * d) a u, z) same

sum_is : (y : Float) (s : Bool) (k : ℕ) → HasValue y s k 1 → k ≤ 512
    → add binary64 y (of_bits binary64 0x4080_0000_0000_0000) ≡ of_int binary64 (pos (cond s (512 - k) (512 + k)))
unfolding add sum of_bits of_int
sum_is nan s k v h = absurd v
sum_is (inf t) s k v h = absurd v
sum_is (fin true m e) true k v h =
    below (m * up e * 1) (down e) (down e * 1) k (mul-pos (down_pos e) (lit< tt)) h v.1 (mul-one (down e))
sum_is (fin true m e) false k v h = absurd (true≢false v.0)
sum_is (fin false m e) true k v h = absurd (true≢false (sym v.0))
sum_is (fin false m e) false k v h =
    round_same binary64 false (m * up e * 1 + 1 * 2 ^ 9 * down e) (down e * 1) (512 + k) 1 (mul-pos (down_pos e) (lit< tt)) (lit< tt)
    (omega (arith, v.1))

-- ---- so the cast loses nothing, and gives the place
pub record Shifted (x : Float) : Type 0 where
  pub castable : T (in_unsigned binary64 32 (shifted x))
  pub is : At (to_unsigned 32 (shifted x)) ≡ place_of x
  pub few : to_unsigned 32 (shifted x) ≤ 1024

whole_cast : (y : Float) (p : ℕ) → y ≡ of_int binary64 (pos p) → p ≤ 1024 → T (in_unsigned binary64 32 y) × (to_unsigned 32 y ≡ p)
whole_cast y p e h =
    let c = castable {n = p} (let l : 1024 ≤ 2 ^ 53 = lit≤ tt in omega arith) in
    let (a, b) = unsigned_back binary64 32 p c (omega arith) in
    (subst (λ (z : Float). T (in_unsigned binary64 32 z)) (sym e) a, ap (to_unsigned 32) e ∙ b)

in_table : (s : Bool) (k : ℕ) → k ≤ 512 → cond s (512 - k) (512 + k) ≤ 1024
in_table true k h = omega arith
in_table false k h = omega arith

pub shifted_is : (x : Float) → off_grid x ≡ false → Shifted x
shifted_is x on =
    let (s, k, v, h, q) = place-only x on in
    let p = cond s (512 - k) (512 + k) in
    let l : p ≤ 1024 = in_table s k h in
    let (a, b) = whole_cast (shifted x) p (sum_is (times128 x) s k (times-value x s k v h) h) l in
    record { castable = a; is = ap At b ∙ sym q; few = omega arith }
