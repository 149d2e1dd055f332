-- `Close k x e m`: the double x is the exact e but for what k roundings can do, all of a size of m at most: an error of ((1 + ε) ^ k - 1) m.
-- Rounded sums, differences and products of such are such again, and so are quotients by doubles above zero.
use Rattle.std.specs.Prelude.{◌≡◌, ℕ, zero, suc, ◌+◌, ◌-◌, Float}
use Rattle.fraction.proofs.Fraction.{ℚ, zeroℚ, oneℚ}
use Rattle.fraction.proofs.Value.{value}
use Rattle.accuracy.proofs.Laws.Ring.{◌⊹◌, ◌⋆◌}
use Rattle.accuracy.proofs.Within.{Within}
use Rattle.accuracy.specs.Rounds.{ε}

-- What k roundings come to: (1 + ε) ^ k - 1.
unfoldable pub gain : ℕ → ℚ
gain zero = zeroℚ
gain (suc k) = gain k ⊹ ε ⋆ (oneℚ ⊹ gain k)

-- x is e but for what k roundings can do, all of numbers up to m in size.
pub record Close (k : ℕ) (x : Float) (e m : ℚ) : Type 0 where
  pub error : ℚ
  pub is : value x ≡ e ⊹ error
  pub small : Within error (gain k ⋆ m)
  pub size : Within e m
