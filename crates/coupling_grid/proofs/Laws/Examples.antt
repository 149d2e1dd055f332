-- Couplings on the grid and off it, by their bits.
use Rattle.std.specs.Prelude.{◌≡◌, ℕ, true, refl, Float}
use Rattle.std.specs.Float.{binary64}
use Rattle.std.specs.Float.Ieee.{of_bits}
use Rattle.coupling_grid.specs.Grid.{At, place_of, off_grid}

abbrev double : ℕ → Float
double b = of_bits binary64 b

-- 4, -4, 0, -0, 1/128 and -1/128 are on the grid
on : (place_of (double 0x4010_0000_0000_0000) ≡ At 1024) × (place_of (double 0xc010_0000_0000_0000) ≡ At 0)
    × (place_of (double 0) ≡ At 512) × (place_of (double 0x8000_0000_0000_0000) ≡ At 512)
    × (place_of (double 0x3f80_0000_0000_0000) ≡ At 513) × (place_of (double 0xbf80_0000_0000_0000) ≡ At 511)
unfolding place_of of_bits
on = (refl, refl, refl, refl, refl, refl)

-- 1/256, the doubles next to 1/128, 4 + 1/128, the double after 4, the smallest double above zero, an infinity and a NaN are not
off : (off_grid (double 0x3f70_0000_0000_0000) ≡ true) × (off_grid (double 0x3f7f_ffff_ffff_ffff) ≡ true)
    × (off_grid (double 0x3f80_0000_0000_0001) ≡ true) × (off_grid (double 0x4010_0800_0000_0000) ≡ true)
    × (off_grid (double 0x4010_0000_0000_0001) ≡ true) × (off_grid (double 1) ≡ true)
    × (off_grid (double 0xfff0_0000_0000_0000) ≡ true) × (off_grid (double 0x7ff8_0000_0000_0000) ≡ true)
unfolding off_grid of_bits
off = (refl, refl, refl, refl, refl, refl, refl, refl)
