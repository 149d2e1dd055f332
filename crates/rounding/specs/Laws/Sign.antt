-- Floats without a minus sign.
use Rattle.std.specs.Prelude.{Bool, true, not, Float}
use Rattle.std.specs.Float.{nan, inf, fin}

-- not below zero and not -0; a NaN and +∞ pass. The negation of IEEE 754's isSignMinus, for a NaN without a sign.
abbrev pub not_minus : Float → Bool
not_minus nan = true
not_minus (inf s) = not s
not_minus (fin s m e) = not s
