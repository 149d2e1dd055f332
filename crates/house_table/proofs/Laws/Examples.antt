-- Entries that are worked out from the definition, by their bits.
use Rattle.std.specs.Prelude.{◌≡◌, refl, ℕ, pos, negsuc, Float}
use Rattle.std.specs.Float.{binary64}
use Rattle.std.specs.Float.Ieee.{of_bits}
use Rattle.house_table.specs.House.{house}

abbrev double : ℕ → Float
double b = of_bits binary64 b

-- ---- e and 1 / e, and the ends of the table
ends : (house (pos 512) ≡ double 0x404b_4c90_2e27_3a58) × (house (negsuc 511) ≡ double 0x3f92_c155_b821_3cf4)
unfolding house of_bits
ends = (refl, refl)

ones : (house (pos 128) ≡ double 0x4005_bf0a_8b14_5769) × (house (negsuc 127) ≡ double 0x3fd7_8b56_362c_ef38)
unfolding house of_bits
ones = (refl, refl)
