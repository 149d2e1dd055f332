-- What the reader of rows is given.
use Rattle.std.specs.Prelude.{List, ℕ, ◌+◌, ◌*◌, ◌^◌, ◌≤◌, ◌<◌, length}
use Rattle.limits.specs.Limits.{most_betas, most_pairs, most_named}

-- The rows of so many chunks lie in the bytes, and their numbers are small.
pub record Lying (bytes : List ℕ) (start samples betas pairs chunks : ℕ) : Type 0 where
  pub long : 32 + 28 * (chunks * (betas * pairs)) ≤ length bytes
  pub range : start + chunks < 2 ^ 64
  pub few-samples : samples ≤ most_named
  pub few-betas : betas ≤ most_betas
  pub few-pairs : pairs ≤ most_pairs
