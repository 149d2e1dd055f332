-- What the square root of a number above zero is: the value of the format nearest to the real root, said without real numbers.
use Rattle.std.specs.Prelude.{◌*◌, ◌<◌, T, Float}
use Rattle.std.specs.Float.{Format}
use Rattle.std.specs.Float.Ieee.{fits, lt}
use Rattle.std.specs.Float.Ieee.Positive.{num, den, positive}
use Rattle.nearest.specs.Nearest.{nonnegative, sum_top, sum_bottom}

-- the middle of y and r is below √x: (y + r)² < 4 x
abbrev pub MiddleBelow : Float → Float → Float → Type 0
MiddleBelow y r x = sum_top y r * sum_top y r * den x < 4 * num x * (sum_bottom y r * sum_bottom y r)

-- the middle of y and r is above √x: 4 x < (y + r)²
abbrev pub MiddleAbove : Float → Float → Float → Type 0
MiddleAbove y r x = 4 * num x * (sum_bottom y r * sum_bottom y r) < sum_top y r * sum_top y r * den x

-- r is the value nearest to √x, for an x above zero: √x is above the middle of r and any smaller value, and below the middle of r and any
-- larger one. So every other value is farther, and no tie is left to a rule. (Values below zero are farther than zero, a smaller one.)
pub record NearestRoot (f : Format) (x r : Float) : Type 0 where
  pub held : T (fits f r)
  pub above : T (positive r)
  pub smaller : (y : Float) → T (fits f y) → T (nonnegative y) → T (lt y r) → MiddleBelow y r x
  pub larger : (y : Float) → T (fits f y) → T (nonnegative y) → T (lt r y) → MiddleAbove y r x
