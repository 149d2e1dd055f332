-- Words of the statements on run records: records that join, sums of two of them in turn, and the sums of one run.
use Rattle.std.specs.Prelude.{◌≡◌, cond, List, ℕ, ◌+◌, ◌*◌, ◌-◌, ◌≤◌, ◌<◌, ltb, Float}
use Rattle.limits.specs.Limits.{most_samples}
use Rattle.transfer_matrix.specs.Arithmetic.{sum}
use Rattle.transfer_matrix.specs.Rounded.{ieee}
use Rattle.transfer_matrix.specs.Totals.{square, fourth}
use Rattle.run_record.specs.Records.{chunks_of, per_chunk}
use Rattle.run_record.specs.Reading.{head_of, squares_in, fourths_in}
use Rattle.run_record_join.specs.Joining.{head_over}
use Rattle.run_record_join.specs.Turns.{Turns}

-- Two records that join in the order of their ranges, with one seed and as many samples per chunk, at most 2^32 in all.
pub record Joins (a b : List ℕ) : Type 0 where
  pub turns : Turns a b
  pub seed : (head_of a).seed ≡ (head_of b).seed
  pub samples : (head_of a).samples ≡ (head_of b).samples
  pub few : chunks_of (head_over (head_of a) (head_of b)) * (head_of a).samples ≤ most_samples

-- Some sums of so many chunks, then others.
unfoldable pub chain : (chunks : ℕ) → (first second : (chunk place : ℕ) → Float) → (chunk place : ℕ) → Float
chain m x y c k = cond (ltb c m) (x c k) (y (c - m) k)

-- The sums of a record are those of a run, whose correlations go by chunk, sample and place: each chunk's powers, added from +0.0.
pub record Holds (correlation : (chunk sample place : ℕ) → Float) (bytes : List ℕ) : Type 0 where
  pub squares : (c k : ℕ) → c < chunks_of (head_of bytes) → k < per_chunk (head_of bytes)
      → squares_in bytes c k ≡ sum ieee (head_of bytes).samples (λ t. square ieee (correlation ((head_of bytes).start + c) t k))
  pub fourths : (c k : ℕ) → c < chunks_of (head_of bytes) → k < per_chunk (head_of bytes)
      → fourths_in bytes c k ≡ sum ieee (head_of bytes).samples (λ t. fourth ieee (correlation ((head_of bytes).start + c) t k))
