-- An order of sizes, which rounded operations keep.
use Rattle.std.specs.Prelude.{◌*◌, ◌≤◌, T, Float}
use Rattle.std.specs.Float.Ieee.Scale.{finite}
use Rattle.std.specs.Float.Ieee.Positive.{num, den}
use Rattle.rounding.specs.Laws.Sign.{not_minus}

-- x is finite, and no larger in size than y, a finite value
pub record Within (x y : Float) : Type 0 where
  pub is_finite : T (finite x)
  pub at_most : num x * den y ≤ num y * den x

pub record Under (x y : Float) : Type 0 where
  pub sign : T (not_minus y)
  pub size : T (finite y) → Within x y
