-- The larger of two numbers.
use Rattle.std.specs.Prelude.{cond, Float}
use Rattle.std.specs.Float.Ieee.{lt}

-- x where it is above a, else a: so a where x is a NaN
unfoldable pub larger : Float → Float → Float
larger a x = cond (lt a x) x a
