-- What the sweeps leave as it was.
use Rattle.std.specs.Prelude.{◌≡◌, List, ℕ, ◌<◌, length, drop, Float}
use Rattle.step_tables.specs.Place.{held}

-- Since r₀ the length and all from number k on are as they were.
pub record SameFrom (r₀ r : List Float) (k : ℕ) : Type 0 where
  pub same : length r ≡ length r₀
  pub tail : drop k r ≡ drop k r₀

-- Since r₀ the length, the vectors that are kept at the places of n vertices, and all from number k on are as they were.
pub record Since (place : ℕ → ℕ) (r₀ r : List Float) (n w k : ℕ) : Type 0 where
  pub same : length r ≡ length r₀
  pub tail : drop k r ≡ drop k r₀
  pub vectors : (u : ℕ) → u < n → 0 < place u → held r w (place u) ≡ held r₀ w (place u)
