-- Factors that are worked out from the definitions, by their bits.
use Rattle.std.specs.Prelude.{◌≡◌, refl, [], ◌∷◌, ℕ, pos, Float}
use Rattle.std.specs.Float.{binary64}
use Rattle.std.specs.Float.Ieee.{of_bits, div}
use Rattle.list_laws.specs.Tabulate.{tabulate}
use Rattle.coupling_grid.specs.Grid.{place_of}
use Rattle.house_table.specs.House.{house}
use Rattle.house_factors.specs.Factors.{factor_of, single_factors, paired_factors}

abbrev double : ℕ → Float
double b = of_bits binary64 b

-- the factors of 1/128 and -0.0, plus before minus
paired : paired_factors (double 0x3f80_0000_0000_0000 ∷ double 0x8000_0000_0000_0000 ∷ [])
    ≡ double 0x3ff0_2020_1560_0446 ∷ double 0x3fef_c03f_d56a_a225 ∷ double 0x3ff0_0000_0000_0000 ∷ double 0x3ff0_0000_0000_0000 ∷ []
unfolding paired_factors factor_of place_of house of_bits tabulate
paired = refl

-- the minus factor of 1/128 is not one over its plus factor, which is the double before it
one-over : div binary64 (double 0x3ff0_0000_0000_0000) (house (pos 1)) ≡ double 0x3fef_c03f_d56a_a224
unfolding house of_bits div
one-over = refl

-- a coupling below zero has the entry below 1.0
single : single_factors (double 0xbf80_0000_0000_0000 ∷ []) ≡ double 0x3fef_c03f_d56a_a225 ∷ []
unfolding single_factors factor_of place_of house of_bits tabulate
single = refl
