-- What the totals of a run record are, and what `record_totals` answers and leaves in the lent lists.
use Rattle.std.specs.Prelude.{◌≡◌, false, List, ℕ, ◌+◌, ◌*◌, Float, length}
use Rattle.std.specs.declared.result.Result.{Result}
use Rattle.list_laws.specs.Tabulate.{tabulate}
use Rattle.transfer_matrix.specs.Arithmetic.{sum}
use Rattle.transfer_matrix.specs.Rounded.{ieee}
use Rattle.transfer_matrix.specs.Totals.{sampled_count}
use Rattle.refusals.specs.Request.{record_request}
use Rattle.refusals.specs.Refusal.{refusal, of_record_totals}
use Rattle.refusals.specs.AcceptedTotals.{misfits}
use Rattle.refusals.specs.Answers.{Answered, left}
use Rattle.refusals.specs.declared.Refusal.{Refusal}
use Rattle.run_record.specs.declared.Head.{Head}
use Rattle.run_record.specs.Records.{chunks_of, per_chunk}
use Rattle.run_record.specs.Reading.{head_of, double_at, squares_in, fourths_in, bad_record}

-- The doubles so many bytes into the rows at one place of each chunk, added from +0.0 in the chunks' order, each sum rounded.
unfoldable pub column_sum : (bytes : List ℕ) → (per chunks offset place : ℕ) → Float
column_sum bytes per chunks offset k = sum ieee chunks (λ c. double_at bytes (32 + 28 * (c * per + k) + offset))

-- The totals of some sums by chunk and place: at each place the chunks' sums, added from +0.0 in their order, each sum rounded.
unfoldable pub totals_of : (chunks per : ℕ) → (sums : (chunk place : ℕ) → Float) → List Float
totals_of chunks per sums = tabulate (λ k. sum ieee chunks (λ c. sums c k)) per

module _ (bytes : List ℕ) where
  abbrev head : Head
  head = head_of bytes

  abbrev pub total_squares : List Float
  total_squares = totals_of (chunks_of head) (per_chunk head) (squares_in bytes)

  abbrev pub total_fourths : List Float
  total_fourths = totals_of (chunks_of head) (per_chunk head) (fourths_in bytes)

  -- how many samples there are: chunks times samples per chunk
  abbrev pub record_count : ℕ
  record_count = sampled_count head.start head.end head.samples

  -- 26, then 12, of lists of totals with so many numbers
  abbrev pub refused_totals : (squares fourths : ℕ) → ℕ
  refused_totals squares fourths =
      refusal of_record_totals
      (record_request (record { broken = bad_record bytes; apart = false }) head.start head.end head.samples (misfits (per_chunk head) squares fourths))

  -- The answer r of a call, and both lists after it.
  pub record Totalled (r : Result ℕ Refusal) (squares squares' fourths fourths' : List Float) : Type 0 where
    pub answer : Answered (refused_totals (length squares) (length fourths)) record_count r
    pub squares_are : squares' ≡ left (refused_totals (length squares) (length fourths)) total_squares squares
    pub fourths_are : fourths' ≡ left (refused_totals (length squares) (length fourths)) total_fourths fourths
