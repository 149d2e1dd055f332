-- The series for e ^ (i / 128), summed through its 40th power as an exact fraction of whole numbers, `through i 40` over `bottom 40`.
use Rattle.std.specs.Prelude.{cond, ℕ, zero, suc, ◌*◌, ◌%◌, ◌^◌, eqb, ℤ, pos, negsuc, neg_ℤ, ◌+ℤ◌, ◌*ℤ◌}

-- k!
unfoldable pub factorial : ℕ → ℕ
factorial zero = 1
factorial (suc k) = factorial k * suc k

-- i ^ k
abbrev pub power : ℤ → ℕ → ℤ
power (pos m) k = pos (m ^ k)
power (negsuc m) k = cond (eqb (k % 2) 0) (pos (suc m ^ k)) (neg_ℤ (pos (suc m ^ k)))

-- the terms (i / 128) ^ k / k!, for k from 0 to n, have the common bottom 128 ^ n * n!
unfoldable pub bottom : ℕ → ℕ
unfolding factorial
bottom n = 128 ^ n * factorial n

-- Their sum's top. The next bottom is 128 * (n + 1) times as large, and over it the next term is i ^ (n + 1).
unfoldable pub through : ℤ → ℕ → ℤ
through i zero = pos 1
through i (suc n) = through i n *ℤ pos (128 * suc n) +ℤ power i (suc n)
