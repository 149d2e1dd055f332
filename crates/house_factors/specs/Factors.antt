-- The factor of a coupling for each sign, and the factor lists that couplings have.
use Rattle.std.specs.Prelude.{Bool, true, false, List, ℕ, ◌*◌, ◌/◌, ◌%◌, eqb, neg_ℤ, length, get_or, Float}
use Rattle.std.specs.Float.{nan}
use Rattle.list_laws.specs.Tabulate.{tabulate}
use Rattle.coupling_grid.specs.Grid.{Place, At, Off, place_of}
use Rattle.house_table.specs.House.{house, entry_at}

-- at the place of entry i: that entry for sign plus (false), and entry -i for sign minus (true), which need not be one over it
abbrev pub factor_at : Place → Bool → Float
factor_at Off minus = nan
factor_at (At p) false = house (entry_at p)
factor_at (At p) true = house (neg_ℤ (entry_at p))

-- the factor of a coupling for a sign; off the grid it has none
unfoldable pub factor_of : Float → Bool → Float
factor_of x minus = factor_at (place_of x) minus

-- one factor for each coupling, that of sign plus: what a single call lends
unfoldable pub single_factors : List Float → List Float
single_factors couplings = tabulate (λ e. factor_of (get_or couplings e nan) false) (length couplings)

-- two factors for each coupling: that of coupling e for sign plus at 2 e, and that for sign minus next to it
abbrev pub paired_factor : List Float → ℕ → Float
paired_factor couplings k = factor_of (get_or couplings (k / 2) nan) (eqb (k % 2) 1)

unfoldable pub paired_factors : List Float → List Float
paired_factors couplings = tabulate (paired_factor couplings) (2 * length couplings)
