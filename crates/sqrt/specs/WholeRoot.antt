-- The whole part of a square root, found digit by digit, and that it is that.
use Rattle.std.specs.Prelude.{ℕ, zero, suc, ◌+◌, ◌*◌, ◌/◌, ◌^◌, ◌≤◌, ◌<◌, not, cond, leb}
use Rattle.std.specs.Float.Ieee.{size}

-- r is the whole part of √n
pub record WholeRoot (n r : ℕ) : Type 0 where
  pub least : r * r ≤ n
  pub most : n < (r + 1) * (r + 1)

-- 2 * r or 2 * r + 1: the larger one whose square is not above n
abbrev pub digit : ℕ → ℕ → ℕ
digit n r = cond (leb ((2 * r + 1) * (2 * r + 1)) n) (2 * r + 1) (2 * r)

-- the whole part of √n, for an n below 4 ^ d, whose root has d binary digits at most
unfoldable pub digits : ℕ → ℕ → ℕ
digits zero n = 0
digits (suc d) n = digit n (digits d (n / 4))

unfoldable pub whole_root : ℕ → ℕ
unfolding digits
whole_root n = digits (size n) n
