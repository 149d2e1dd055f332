-- A whole number below 2 ^ 53 as a double, times 1.0 / 2 ^ 53 as the code has it: one rounding of the quotient, and that is exact.
use Rattle.std.specs.Prelude.{◌≡◌, refl, false, true, ℕ, ◌*◌, ◌^◌, ◌≤◌, ◌<◌, pos, negsuc, T, Float}
use Rattle.std.proofs.Common.{◌∙◌, ap, true≢false, mul_assoc, mul-pos, le_of_lt, arith, lit<, le→leb}
use Rattle.std.specs.Float.{nan, inf, fin, binary64}
use Rattle.std.specs.Float.Ieee.{up, down, mul, div, round, of_int, of_bits, in_float}
use Rattle.std.specs.Float.Ieee.Exact.{HasValue}
use Rattle.std.specs.Float.Ieee.Scale.{round_same}
use Rattle.std.specs.Float.Ieee.Back.{round_whole}
use Rattle.std.specs.Float.Ieee.Fits.{down_pos}

-- 2 ^ -53
abbrev ulp : Float
ulp = fin false 1 (negsuc 52)

ulp-is : div binary64 (of_bits binary64 0x3ff0_0000_0000_0000) (of_bits binary64 0x4340_0000_0000_0000) ≡ ulp
unfolding div of_bits
ulp-is = refl

scaled : (x : Float) (n : ℕ) → HasValue x false n 1 → mul binary64 x ulp ≡ round binary64 false n (2 ^ 53)
unfolding mul
scaled nan n h = absurd h
scaled (inf t) n h = absurd h
scaled (fin true m e) n h = absurd (true≢false h.0)
scaled (fin false m e) n h =
    round_same binary64 false (m * up e * (1 * 1)) (down e * 2 ^ 53) n (2 ^ 53) (mul-pos (down_pos e) (lit< tt)) (lit< tt)
    (omega (arith, h.1, mul_assoc n (down e) (2 ^ 53)))

pub times-ulp : (n : ℕ) → n < 2 ^ 53
    → mul binary64 (of_int binary64 (pos n)) (div binary64 (of_bits binary64 0x3ff0_0000_0000_0000) (of_bits binary64 0x4340_0000_0000_0000))
    ≡ round binary64 false n (2 ^ 53)
unfolding of_int
times-ulp n h =
    ap (mul binary64 (round binary64 false n 1)) ulp-is ∙ scaled (round binary64 false n 1) n (round_whole binary64 false n (le_of_lt h))

-- and such a number can be cast
pub castable : {n : ℕ} → n ≤ 2 ^ 53 → T (in_float binary64 (pos n))
unfolding in_float
castable {n} h = le→leb n (2 ^ 53) h
