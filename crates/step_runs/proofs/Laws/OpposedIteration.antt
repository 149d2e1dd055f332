-- The indexes of an iteration of a run that goes down: within the slice, and held by a machine word.
use Rattle.std.specs.Prelude.{ℕ, ◌+◌, ◌*◌, ◌-◌, ◌^◌, ◌≤◌, ◌<◌}
use Rattle.std.proofs.Common.{arith, Fits}
use Rattle.std.specs.Int.{w64}

-- the two last of the r numbers at x are indexes of a slice of len numbers
pub record Last (len x r : ℕ) : Type 0 where
  pub within : x + r ≤ len
  pub one : 1 ≤ x + r
  pub two : 2 ≤ x + r
  pub at : x + r - 1 < len
  pub next : x + r - 2 < len

-- those of a part of n numbers, of which i are behind
pub last_of : (len x n i : ℕ) → i + 1 < n → x + n ≤ len → Last len x (n - i)
last_of len x n i h p = record { within = omega arith; one = omega arith; two = omega arith; at = omega arith; next = omega arith }

-- a length is held by a machine word
pub held : {x len : ℕ} → x ≤ len → len * 8 < 2 ^ 63 → Fits w64 x
held h b = record { fits = omega arith }
