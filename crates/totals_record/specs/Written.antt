-- A run that passed its checks, as a record: the sums of each chunk are those that its totals are where no other chunk is drawn.
use Rattle.std.specs.Prelude.{◌≡◌, Bool, true, cond, not, List, ℕ, ◌+◌, Float, length, get_or}
use Rattle.std.specs.Float.{nan}
use Rattle.list_laws.specs.Front.{over}
use Rattle.list_laws.specs.Tabulate.{tabulate}
use Rattle.transfer_matrix.specs.Job.{Manner}
use Rattle.transfer_matrix.specs.Room.{Arrangement, room}
use Rattle.transfer_matrix.specs.Rounded.{ieee}
use Rattle.transfer_matrix.specs.Totals.{square, fourth}
use Rattle.job_run.specs.Zeros.{zeros}
use Rattle.totals_chunks.specs.declared.Chunks.{Chunks}
use Rattle.totals_chunks.specs.Totals.{drawn_chunks}
use Rattle.totals_call.specs.Jobs.{unsound_in, totals_in}
use Rattle.job_sheet_put.specs.Behind.{Appended}
use Rattle.run_record.specs.declared.Head.{Head}
use Rattle.run_record.specs.Records.{record_length, record_rows, record_of}

-- So many bytes 0.
abbrev pub zero_bytes : ℕ → List ℕ
zero_bytes n = tabulate (λ _. 0) n

-- All chunks of a run, and chunk c alone, counted from its start.
abbrev pub all_of : Head → Chunks
all_of h = drawn_chunks h.seed h.start h.end h.samples

abbrev pub chunk_of : Head → ℕ → Chunks
chunk_of h c = drawn_chunks h.seed (h.start + c) (h.start + c + 1) h.samples

module _ (n w : ℕ) (early late : List ℕ) (factors : List Float) (manner : Manner) (us vs : List ℕ) (h : Head) where
  -- The total of a power over chunk c alone, at beta times pairs + pair.
  abbrev pub sums_in : (Float → Float) → (chunk place : ℕ) → Float
  sums_in power c k = get_or (totals_in n w early late factors manner us vs h.betas (chunk_of h c) power) k nan

  -- The record of the run.
  abbrev pub record_in : List ℕ
  record_in = record_of h (sums_in (square ieee)) (sums_in (fourth ieee))

  module _ (arrangement : Arrangement) (edges : ℕ) (sound : Bool) where
    -- Whether every Z was finite and above zero; then the bytes are the record, else 0. The room is +0.0.
    pub record RecordIs (bytes : List ℕ) (work work' : List Float) : Type 0 where
      pub verdict : sound ≡ not (unsound_in n w early late factors manner us vs h.betas (all_of h))
      pub bytes_are : bytes ≡ cond sound record_in (zero_bytes (record_length h))
      pub memory : work' ≡ over (zeros (room arrangement n w edges us vs)) work

    -- The rows alone, behind a head that is written; what lies past the room stays.
    pub record ChunksWritten (before after : List ℕ) (work work' : List Float) : Type 0 where
      pub verdict : sound ≡ not (unsound_in n w early late factors manner us vs h.betas (all_of h))
      pub written : sound ≡ true → Appended 32 (record_rows h (sums_in (square ieee)) (sums_in (fourth ieee))) before after
      pub behind : over (zeros (room arrangement n w edges us vs)) work' ≡ over (zeros (room arrangement n w edges us vs)) work
