-- `Under x y`: y has no minus sign, and where y is finite, x is finite and no larger than y in size.
-- Rounded sums, differences and products keep it, with no condition on overflow: of a y that is not finite it says nothing,
-- and no sum or product of such a y is finite.
use Rattle.std.specs.Prelude.{false, pos, Float}
use Rattle.std.specs.Float.{fin}

-- +0 and 1
abbrev pub nought : Float
nought = fin false 0 (pos 0)

abbrev pub unit : Float
unit = fin false 1 (pos 0)
