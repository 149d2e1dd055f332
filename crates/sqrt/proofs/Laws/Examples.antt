-- Roots that are worked out from the definition, by their bits.
use Rattle.std.specs.Prelude.{◌≡◌, refl, true, false, ℕ, pos}
use Rattle.std.specs.Float.{nan, inf, fin, binary64}
use Rattle.std.specs.Float.Ieee.{of_bits, to_bits}
use Rattle.sqrt.specs.Sqrt.{sqrt}

abbrev root_bits : ℕ → ℕ
root_bits b = to_bits binary64 (sqrt binary64 (of_bits binary64 b))

quarter : root_bits 0x3fd0_0000_0000_0000 ≡ 0x3fe0_0000_0000_0000
unfolding sqrt of_bits to_bits
quarter = refl

-- rounded up, and rounded down
two : root_bits 0x4000_0000_0000_0000 ≡ 0x3ff6_a09e_667f_3bcd
unfolding sqrt of_bits to_bits
two = refl

three : root_bits 0x4008_0000_0000_0000 ≡ 0x3ffb_b67a_e858_4caa
unfolding sqrt of_bits to_bits
three = refl

smallest_subnormal : root_bits 1 ≡ 0x1e60_0000_0000_0000
unfolding sqrt of_bits to_bits
smallest_subnormal = refl

largest_subnormal : root_bits 0x000f_ffff_ffff_ffff ≡ 0x1fff_ffff_ffff_ffff
unfolding sqrt of_bits to_bits
largest_subnormal = refl

largest-finite : root_bits 0x7fef_ffff_ffff_ffff ≡ 0x5fef_ffff_ffff_ffff
unfolding sqrt of_bits to_bits
largest-finite = refl

minus_zero : sqrt binary64 (fin true 0 (pos 0)) ≡ fin true 0 (pos 0)
unfolding sqrt
minus_zero = refl

infinity : sqrt binary64 (inf false) ≡ inf false
unfolding sqrt
infinity = refl

below_zero : (sqrt binary64 (fin true 1 (pos 0)) ≡ nan) × (sqrt binary64 (inf true) ≡ nan)
unfolding sqrt
below_zero = (refl, refl)
