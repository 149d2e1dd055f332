-- Correlations stored one by one: number k of configuration y, of so many, is at k times their number + y.
use Rattle.std.specs.Prelude.{◌≡◌, List, ℕ, ◌+◌, ◌*◌, ◌<◌, Float, get_or}
use Rattle.std.specs.Float.{nan}

-- The first x configurations are stored, n numbers each, and of configuration x the first q.
pub record Stored (value : ℕ → ℕ → Float) (all n x q : ℕ) (stored : List Float) : Type 0 where
  pub whole : (y k : ℕ) → y < x → k < n → get_or stored (k * all + y) nan ≡ value y k
  pub begun : (k : ℕ) → k < q → get_or stored (k * all + x) nan ≡ value x k
