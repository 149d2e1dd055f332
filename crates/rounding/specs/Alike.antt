-- Numbers that are the same but for the sign of a zero: no operation tells them apart but by the sign of a zero.
use Rattle.std.specs.Prelude.{Bool, ℤ, Float}
use Rattle.std.specs.Float.{fin}

-- the same number, or two zeros of any signs
pub data Alike : Float → Float → Type 0 where
  same : {x : Float} → Alike x x
  zeros : {s t : Bool} {d e : ℤ} → Alike (fin s 0 d) (fin t 0 e)
