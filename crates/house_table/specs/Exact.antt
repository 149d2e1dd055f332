-- The series for e ^ x as exact fractions: x ^ 0 / 0! + x ^ 1 / 1! + .. + x ^ n / n!.
use Rattle.std.specs.Prelude.{ℕ, zero, suc, ◌-◌, ℤ, pos, negsuc}
use Rattle.fraction.proofs.Fraction.{ℚ, frac, oneℚ, addℚ, mulℚ, invℚ}
use Rattle.house_table.specs.Series.{factorial}

-- x ^ k
unfoldable pub powerℚ : ℚ → ℕ → ℚ
powerℚ x zero = oneℚ
powerℚ x (suc k) = mulℚ (powerℚ x k) x

-- x ^ k / k!
abbrev pub termℚ : ℚ → ℕ → ℚ
termℚ x k = mulℚ (powerℚ x k) (invℚ (frac (factorial k) 0 0))

-- the terms from 0 to n
unfoldable pub seriesℚ : ℚ → ℕ → ℚ
seriesℚ x zero = termℚ x 0
seriesℚ x (suc n) = addℚ (seriesℚ x n) (termℚ x (suc n))

-- a whole number as the difference of its two parts, one of which is zero
abbrev pub plus : ℤ → ℕ
plus (pos n) = n
plus (negsuc n) = 0

abbrev pub minus : ℤ → ℕ
minus (pos n) = 0
minus (negsuc n) = suc n

-- z / b, for a b above zero
abbrev pub over : ℤ → ℕ → ℚ
over z b = frac (plus z) (minus z) (b - 1)
