-- What is said of the bytes that an accepted call of `sample_record`, or of its house twin, wrote.
use Rattle.std.specs.Prelude.{◌≡◌, false, List, ℕ, ◌^◌, ◌<◌}
use Rattle.transfer_matrix.specs.Rounded.{ieee}
use Rattle.transfer_matrix.specs.Totals.{square, fourth, sampled_count}
use Rattle.totals_call.specs.Given.{Given}
use Rattle.totals_call.specs.Calls.{totals_of_drawn}
use Rattle.run_record.specs.Reading.{bad_record}
use Rattle.run_record_totals.specs.Totals.{total_squares, total_fourths, record_count}

-- A seed and an end of 64 bits, as those of every call are.
pub record Words (seed end : ℕ) : Type 0 where
  pub seed-fits : seed < 2 ^ 64
  pub end_fits : end < 2 ^ 64

-- What is said of the bytes of a run over some chunks: 26 lets them pass, and their totals are what `sample` leaves over these chunks, bit for bit, the count too.
pub record Whole (g : Given) (seed from to samples : ℕ) (bytes : List ℕ) : Type 0 where
  pub passes : bad_record bytes ≡ false
  pub squares : total_squares bytes ≡ totals_of_drawn g seed from to samples (square ieee)
  pub fourths : total_fourths bytes ≡ totals_of_drawn g seed from to samples (fourth ieee)
  pub count : record_count bytes ≡ sampled_count from to samples
