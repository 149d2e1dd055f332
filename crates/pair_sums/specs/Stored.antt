-- When the largest entry of a vector is taken.
use Rattle.std.specs.Prelude.{Bool, true, cond, List, ℕ, ◌%◌, eqb, Float}
use Rattle.transfer_matrix.specs.Rounded.{ieee}
use Rattle.transfer_matrix.specs.Sweep as S

-- after every step, or after the steps with t % 4 = r
unfoldable pub due : Bool → ℕ → ℕ → Bool
due elementwise r t = cond elementwise true (eqb (t % 4) r)

-- the largest entry where it is due, else 1.0
unfoldable pub most_if : Bool → List Float → Float
most_if b v = cond b (S.largest ieee ieee.𝟘 v) ieee.𝟙
