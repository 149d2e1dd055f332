-- What the value of a format nearest a fraction above zero is, said without real numbers.
use Rattle.std.specs.Prelude.{ℕ, ◌+◌, ◌*◌, ◌<◌, Bool, false, not, T, Float}
use Rattle.std.specs.Float.{nan, inf, fin, Format}
use Rattle.std.specs.Float.Ieee.{fits, lt}
use Rattle.std.specs.Float.Ieee.Positive.{num, den, positive}

-- finite, and without a minus sign
abbrev pub nonnegative : Float → Bool
nonnegative nan = false
nonnegative (inf s) = false
nonnegative (fin s m e) = not s

-- y + r as a fraction: y is num y / den y
abbrev pub sum_top : Float → Float → ℕ
sum_top y r = num y * den r + num r * den y

abbrev pub sum_bottom : Float → Float → ℕ
sum_bottom y r = den y * den r

-- the middle of y and r is below a / b: (y + r) / 2 < a / b
abbrev pub MiddleUnder : Float → Float → ℕ → ℕ → Type 0
MiddleUnder y r a b = sum_top y r * b < 2 * a * sum_bottom y r

-- the middle of y and r is above a / b
abbrev pub MiddleOver : Float → Float → ℕ → ℕ → Type 0
MiddleOver y r a b = 2 * a * sum_bottom y r < sum_top y r * b

-- r is the value nearest a / b, which is above zero: a / b is above the middle of r and any smaller value, and below the middle of r and any
-- larger one. So every other value is farther, and no tie is left to a rule. (Values below zero are farther than zero, a smaller one.)
pub record NearestTo (f : Format) (a b : ℕ) (r : Float) : Type 0 where
  pub held : T (fits f r)
  pub above : T (positive r)
  pub smaller : (y : Float) → T (fits f y) → T (nonnegative y) → T (lt y r) → MiddleUnder y r a b
  pub larger : (y : Float) → T (fits f y) → T (nonnegative y) → T (lt r y) → MiddleOver y r a b
