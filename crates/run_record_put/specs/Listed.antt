-- The rows of a chunk whose sums stand in two lists.
use Rattle.std.specs.Prelude.{List, ℕ, ◌+◌, Float, get_or}
use Rattle.std.specs.Float.{nan}
use Rattle.little_endian.specs.Rows.{rows}
use Rattle.run_record.specs.declared.Head.{Head}
use Rattle.run_record.specs.Records.{row_bytes, chunk_rows}

-- The rows of a beta, from number `first` of the lists on.
abbrev pub listed_beta : (chunk b first pairs : ℕ) → (squares fourths : List Float) → List ℕ
listed_beta chunk b first pairs squares fourths = rows (λ p. row_bytes chunk b p (get_or squares (first + p) nan) (get_or fourths (first + p) nan)) pairs

-- The rows of chunk c.
abbrev pub listed_chunk : Head → (c : ℕ) → (squares fourths : List Float) → List ℕ
listed_chunk h c squares fourths = chunk_rows h (λ _ k. get_or squares k nan) (λ _ k. get_or fourths k nan) c
