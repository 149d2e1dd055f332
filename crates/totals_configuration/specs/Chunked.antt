-- Sums over chunks: the sums of each chunk, from zero, added chunk by chunk. U i j says of configuration j of chunk i whether one of its Z
-- is not finite and above zero, c i j k is its correlation at k.
use Rattle.std.specs.Prelude.{◌≡◌, ℕ}

-- Lists of n sums each: those of a chunk, and the totals.
pub record Lists (n part-squares part-fourths squares fourths : ℕ) : Type 0 where
  pub part-squared : part-squares ≡ n
  pub part-fourthed : part-fourths ≡ n
  pub squared : squares ≡ n
  pub fourthed : fourths ≡ n
