-- The size and the sign of a float. Sums, products and quotients of values without a minus sign have none,
-- a finite result has finite operands, and the size of a result is a rounded fraction.
use Rattle.std.specs.Prelude.{false, Float}
use Rattle.std.specs.Float.{nan, inf, fin}

-- the size; a NaN's is a NaN
abbrev pub abs : Float → Float
abs nan = nan
abs (inf s) = inf false
abs (fin s m e) = fin false m e
