-- The fraction that a double stands for; what is no number counts as zero.
-- It agrees with the library's own word for a double's value, `HasValue`, and is above zero where the double is.
use Rattle.std.specs.Prelude.{true, false, ◌*◌, ◌-◌, Float}
use Rattle.std.specs.Float.{nan, inf, fin}
use Rattle.std.specs.Float.Ieee.{up, down}
use Rattle.fraction.proofs.Fraction.{ℚ, frac, zeroℚ}

unfoldable pub value : Float → ℚ
value nan = zeroℚ
value (inf s) = zeroℚ
value (fin false m e) = frac (m * up e) 0 (down e - 1)
value (fin true m e) = frac 0 (m * up e) (down e - 1)
