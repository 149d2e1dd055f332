-- Squares and fourth powers, rounded.
use Rattle.std.specs.Prelude.{Float}
use Rattle.std.specs.Float.{Format}
use Rattle.std.specs.Float.Ieee.{mul}

abbrev pub square : Format → Float → Float
square f c = mul f c c

abbrev pub fourth : Format → Float → Float
fourth f c = square f (square f c)
