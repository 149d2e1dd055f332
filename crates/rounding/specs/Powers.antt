-- Squares and fourth powers of values in [-1, 1], their sums in chunks, and the number of terms:
-- the fourths' sum is no larger than the squares', and that no larger than the number.
use Rattle.std.specs.Prelude.{ℕ, T, Float}
use Rattle.std.specs.Float.{Format}
use Rattle.std.specs.Float.Ieee.{le}
use Rattle.rounding.specs.Under.{nought}
use Rattle.rounding.specs.Whole.{whole}

-- the same by the comparisons of a program
pub record Ordered (f : Format) (q s : Float) (n : ℕ) : Type 0 where
  pub nonnegative : T (le nought q)
  pub ascending : T (le q s)
  pub counted : T (le s (whole f n))
