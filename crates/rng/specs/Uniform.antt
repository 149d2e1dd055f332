-- A word's top 53 bits times 2 ^ -53: the double nearest to that fraction, which is the fraction itself.
use Rattle.std.specs.Prelude.{ℕ, ◌/◌, ◌^◌, false, Float}
use Rattle.std.specs.Float.{binary64}
use Rattle.std.specs.Float.Ieee.{round}

-- the double nearest to (word >> 11) / 2 ^ 53
unfoldable pub unit : ℕ → Float
unit word = round binary64 false (word / 2 ^ 11) (2 ^ 53)
