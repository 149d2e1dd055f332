-- Laws of the pattern that a step's bits give an index, and of the blocks of 2 ^ e indexes.
use Rattle.std.specs.Prelude.{◌≡◌, List, ℕ, zero, suc, ◌+◌, ◌*◌, ◌-◌, ◌/◌, ◌^◌, ◌≤◌, ◌<◌}
use Rattle.std.proofs.Common.{add-sub_of_le, suc-mul, pow-suc, mul-le-mul_right, lt_of_mul-lt-mul_right, arith, pow_mono, shr-shr, pow-add}
use Rattle.std.proofs.lemmas.Nat.{shl-shr}
use Rattle.std.proofs.Math.Pow.{high}
use Rattle.step_tables.specs.Step.{pattern_from}

pub pattern_lt : (l : List ℕ) (i n k : ℕ) → pattern_from l i n k < 2 ^ n
unfolding pattern_from
pattern_lt l i zero k = omega arith
pattern_lt l i (suc n) k = rw pow-suc (omega (arith, pattern_lt l (suc i) n k))

-- a pattern of at most four bits is an index of a table of 16
pub pattern-16 : (l : List ℕ) (i n k : ℕ) → n ≤ 4 → pattern_from l i n k < 16
pattern-16 l i n k h = let p : 2 ^ n ≤ 2 ^ 4 = pow_mono h in omega (arith, pattern_lt l i n k)

-- a bit from e on does not see what is below 2 ^ e
pub high_bit : (q e j b : ℕ) → j < 2 ^ e → e ≤ b → (q * 2 ^ e + j) / 2 ^ b ≡ q * 2 ^ e / 2 ^ b
high_bit q e j b h l =
    let t : e + (b - e) ≡ b = add-sub_of_le l in
    rw (← t, ← shr-shr (q * 2 ^ e + j) e (b - e), ← shr-shr (q * 2 ^ e) e (b - e), high q e h, shl-shr q e)

-- a block that begins below 2 ^ h ends there
pub block_fits : (q e h : ℕ) → e ≤ h → q * 2 ^ e < 2 ^ h → q * 2 ^ e + 2 ^ e ≤ 2 ^ h
block_fits q e h l b =
    let t : h - e + e ≡ h = omega arith in
    let p : 2 ^ h ≡ 2 ^ (h - e) * 2 ^ e = rw t at (pow-add 2 (h - e) e) in
    let s : q < 2 ^ (h - e) = lt_of_mul-lt-mul_right (2 ^ e) (omega arith) in
    omega (arith, mul-le-mul_right (2 ^ e) s, suc-mul q (2 ^ e))
