-- Both round trips, of jobs whose numbers fit their fields and of bytes that the reader accepts.
use Rattle.std.specs.Prelude.{◌≡◌, List, ℕ, length}
use Rattle.little_endian.specs.Words.{Bytes}
use Rattle.little_endian.proofs.Laws.Rows.{stand_whole}
use Rattle.job_sheet.specs.Counts.{counted, counts_of}
use Rattle.job_sheet.specs.Sheets.{Sheet}
use Rattle.job_sheet.proofs.Theorems.{accepted-is-sheet, sheet-is-accepted}
use Rattle.job_sheet_bytes.specs.Jobs.{Job, Fits, sheet_of, job_of}
use Rattle.job_sheet_bytes.proofs.Laws.Bytes.{laid, sheet-length}
use Rattle.job_sheet_bytes.proofs.Laws.Read.{front_of, job_read}
use Rattle.job_sheet_bytes.proofs.Laws.Written.{written-again, fits_read}

module _ (j : Job) (f : Fits j) where
  -- The bytes of a job are a sheet,
  pub written-is-sheet : Sheet (sheet_of j) (length j.ones) (length j.betas) (length j.firsts)
  written-is-sheet = record { front = front_of (sheet_of j) j f (laid j (sheet_of j) (stand_whole (sheet_of j))); size = sheet-length j }

  -- so the reader accepts them, with as many records as the job has,
  pub written-is-accepted : counts_of (sheet_of j) ≡ counted (length j.ones) (length j.betas) (length j.firsts)
  written-is-accepted = sheet-is-accepted (sheet_of j) _ _ _ written-is-sheet

  -- and the job read from a written sheet is the one written.
  pub read_what_was_written : job_of (sheet_of j) ≡ j
  unfolding job_of
  read_what_was_written = rw written-is-accepted (job_read (sheet_of j) j f (laid j (sheet_of j) (stand_whole (sheet_of j))))

module _ (bytes : List ℕ) (b : Bytes bytes) (accepted : (counts_of bytes).refusal ≡ 0) where
  -- A job read from an accepted sheet fits its fields,
  pub read_fits : Fits (job_of bytes)
  unfolding job_of
  read_fits = fits_read bytes _ _ _ b (accepted-is-sheet bytes accepted)

  -- and an accepted sheet is that of the job in it.
  pub written_as_it_was_read : sheet_of (job_of bytes) ≡ bytes
  unfolding job_of
  written_as_it_was_read = written-again bytes _ _ _ b (accepted-is-sheet bytes accepted)
