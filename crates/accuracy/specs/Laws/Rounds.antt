-- The smallest normal double.
use Rattle.std.specs.Prelude.{◌-◌, ◌^◌}
use Rattle.fraction.proofs.Fraction.{ℚ, frac}

-- 2 ^ -1022
unfoldable pub smallest : ℚ
smallest = frac 1 0 (2 ^ 1022 - 1)
