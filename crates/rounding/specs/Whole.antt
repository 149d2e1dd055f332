-- A factor of at most 1 makes no value of the format larger, since rounding gives back what the format holds.
-- Whole numbers up to 2 ^ prec are held, and add up exactly.
use Rattle.std.specs.Prelude.{ℕ, false, pos, Float}
use Rattle.std.specs.Float.{Format}
use Rattle.std.specs.Float.Ieee.{round}

-- ---- whole numbers: n rounded to the format, which is `of_int f (pos n)`
abbrev pub whole : Format → ℕ → Float
whole f n = round f false n 1
