-- Where a coupling stands on the grid of the multiples of 1/128 from -4 to 4.
use Rattle.std.specs.Prelude.{ℕ, ◌+◌, ◌-◌, ◌*◌, ◌/◌, ◌%◌, Bool, true, cond, not, ◌&&◌, List, length, ℤ, ◌==◌, nat_le, slice_index_or, Float}
use Rattle.std.specs.Float.{nan, inf, fin}
use Rattle.std.specs.Float.Ieee.{up, down}
use Rattle.list_laws.specs.Search.{some}

-- the place of a coupling's entry in a table of the grid, from 0 to 1024, or that it has none
pub data Place : Type 0 where
  At : ℕ → Place
  Off : Place

-- whether a / c is a whole number up to 512
abbrev pub whole_to512 : ℕ → ℕ → Bool
whole_to512 a c = a % c == 0 && nat_le (a / c) 512

-- whether m * 2 ^ e is a multiple of 1/128 and at most 4
abbrev pub multiple : ℕ → ℤ → Bool
multiple m e = whole_to512 (m * up e * 128) (down e)

-- how many 128ths it then is
abbrev pub steps : ℕ → ℤ → ℕ
steps m e = m * up e * 128 / down e

-- NaN, an infinity, beyond 4 in size, or no multiple of 1/128; -0.0 is 0/128
unfoldable pub off_grid : Float → Bool
off_grid nan = true
off_grid (inf s) = true
off_grid (fin s m e) = not (multiple m e)

-- x = i / 128 has entry i of a table of the grid, and that stands at place i + 512
unfoldable pub place_of : Float → Place
place_of nan = Off
place_of (inf s) = Off
place_of (fin s m e) = cond (multiple m e) (At (cond s (512 - steps m e) (512 + steps m e))) Off

-- some coupling is off the grid
abbrev pub some_off_grid : List Float → Bool
some_off_grid couplings = some (λ e. off_grid (slice_index_or couplings e nan)) (length couplings)
