-- How far a rounded correlation, and a total of its powers, can be from the exact one, in numbers that code can compute.
use Rattle.std.specs.Prelude.{Bool, false, cond, ◌&&◌, ℕ, ◌+◌, ◌*◌, ◌^◌, leb, Float}
use Rattle.std.specs.Float.{binary64}
use Rattle.std.specs.Float.Ieee.{round}
use Rattle.std.specs.Float.Ieee.Positive.{num, den}

-- ---- when a bound is known: of n vertices in a window of w, each with at most p near edges

-- x is from 2 ^ -κ to 2 ^ κ.
abbrev pub within_powers : ℕ → Float → Bool
within_powers κ x = leb (den x) (num x * 2 ^ κ) && leb (num x) (den x * 2 ^ κ)

-- Where factors are from 2 ^ -κ to 2 ^ κ and this is at most 1,022, no entry of the sweeps leaves the normal range.
abbrev pub depth : (κ p w : ℕ) → ℕ
depth κ p w = κ * (p + 1) * (2 * w + 8) + w + 57

-- ---- the bounds

-- So many units of 2 ^ -53, as a double: exact below 2 ^ 53.
unfoldable pub units : ℕ → Float
units m = round binary64 false m (2 ^ 53)

-- The roundings on the way to a correlation, of numbers up to one,
abbrev pub roundings_of : (n w p : ℕ) → ℕ
roundings_of n w p = 2 * (p + 5) * n + 2 * 2 ^ w + 5

-- and the bound: (2 (p + 5) n + 2 ^ (w + 1) + 6) / 2 ^ 53.
abbrev pub error_bound : (n w p : ℕ) → Float
error_bound n w p = units (2 * (p + 5) * n + 2 * 2 ^ w + 6)

-- The roundings on the way to a total of squares, of fourth powers, where a correlation takes k and the total has so many chunks of one size.
abbrev pub squares_roundings : (k chunks size : ℕ) → ℕ
squares_roundings k chunks size = 2 * k + 1 + size + chunks

abbrev pub fourths_roundings : (k chunks size : ℕ) → ℕ
fourths_roundings k chunks size = 4 * k + 3 + size + chunks

-- What k roundings come to in units: one more, and for very many of them twice as many.
abbrev pub units_of : ℕ → ℕ
units_of k = cond (leb k 94906264) (k + 1) (2 * k)

-- The bound of a total, for each of its configurations.
abbrev pub total_bound : (roundings : ℕ) → Float
total_bound k = units (units_of k)
