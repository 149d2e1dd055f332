-- The place of a sign.
use mathlib.Core.Bool.{Bool, true, false, cond}
use Prim.Native.Nat.{◌≤◌}
use native.Mathlib.Omega.{arith}

-- a sign is one place at most
pub sign_small : (minus : Bool) → cond minus 1 0 ≤ 1
sign_small true = omega arith
sign_small false = omega arith
