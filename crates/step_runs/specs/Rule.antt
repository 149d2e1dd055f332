-- The weights of two steps at once: alternately within a run, and by the patterns of its places.
use Rattle.std.specs.Prelude.{◌≡◌, List, ◌⊎◌, ℕ, ◌+◌, ◌/◌, ◌≤◌, ◌<◌, get_or, Float}
use Rattle.std.specs.Float.{nan}
use Rattle.step_tables.specs.Rule.{alternating}
use Rattle.step_runs.specs.declared.runs.Four.{Four}

-- p₀, p₁, p₂ and p₃ alternately
unfoldable pub in_four : (p₀ p₁ p₂ p₃ : Float) → ℕ → Float
in_four p₀ p₁ p₂ p₃ k = alternating (alternating p₀ p₂ (k / 2)) (alternating p₁ p₃ (k / 2)) k

-- none of the first n bits is from b up to e: within 2 ^ e indexes the pattern sees the lowest b bits alone
pub record Sparse (l : List ℕ) (n b e : ℕ) : Type 0 where
  pub off : (t : ℕ) → t < n → (get_or l t 0 < b) ⊎ (e ≤ get_or l t 0)

-- the weights of a table at m, and with a and b added
pub record Picked (table : List Float) (m a b : ℕ) (f : Four) : Type 0 where
  pub first : f.first ≡ get_or table m nan
  pub second : f.second ≡ get_or table (m + a) nan
  pub third : f.third ≡ get_or table (m + b) nan
  pub fourth : f.fourth ≡ get_or table (m + a + b) nan
