-- The largest of the numbers that a rule gives.
use Rattle.std.specs.Prelude.{ℕ, zero, suc, max}

-- the largest of f 0, .., f (n - 1), or 0
unfoldable pub most : (ℕ → ℕ) → ℕ → ℕ
most f zero = 0
most f (suc n) = max (most f n) (f n)
