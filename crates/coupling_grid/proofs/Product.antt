-- 128 times a finite number: one rounding of the exact product.
use Rattle.std.proofs.Common.{◌≡◌, ℕ, ◌*◌, Bool, true, false, ℤ, ap, mul-one}
use lib.Ieee.{Float, fin, binary64, up, down, mul, round, of_bits}

-- x * 128.0, as the code has it
abbrev pub times128 : Float → Float
times128 x = mul binary64 x (of_bits binary64 0x4060_0000_0000_0000)

pub product_is : (s : Bool) (m : ℕ) (e : ℤ) → times128 (fin s m e) ≡ round binary64 s (m * up e * 128) (down e)
unfolding mul of_bits
product_is true m e = ap (round binary64 true (m * up e * 128)) (mul-one (down e))
product_is false m e = ap (round binary64 false (m * up e * 128)) (mul-one (down e))
