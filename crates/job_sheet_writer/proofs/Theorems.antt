-- A job read from a written sheet is the one written, doubles by their bits; an accepted sheet whose job passes the writer's checks is written again unchanged.
use Rattle.std.specs.Prelude.{◌≡◌, Ok, false, List, ℕ, Float, length, take}
use Rattle.std.proofs.Common.{sym, ap, ◌∙◌, take_at}
use Rattle.list_laws.specs.Front.{over}
use Rattle.refusals.specs.Request.{some_oversized}
use Rattle.refusals.specs.Answers.{left}
use Rattle.little_endian.specs.Words.{Bytes}
use Rattle.job_sheet.specs.Counts.{counted, counts_of}
use Rattle.job_sheet.specs.Sheets.{sheet_length}
use Rattle.job_sheet_bytes.specs.Jobs.{given, sheet_of, job_of, bits_of, doubles_of}
use Rattle.job_sheet_bytes.proofs.Laws.Bytes.{sheet-length}
use Rattle.job_sheet_bytes.proofs.Theorems.{written-is-accepted, read_what_was_written, read_fits, written_as_it_was_read}
use Rattle.job_sheet_writer.specs.Writes.{sheet_refusal, Wrote}
use Rattle.job_sheet_writer.proofs.Laws.Passed.{Doubles, sizes, fits-given, doubles_of_bits, bits_of_doubles}
use Rattle.job_sheet_put.proofs.Laws.Rows.{bits-length}

module _ (n floor : ℕ) (a b : List ℕ) (m : List Float) (us vs : List ℕ) (betas : List Float) (long : ℕ) (sheet sheet' : List ℕ)
    (w : Wrote n floor a b m us vs betas (Ok long) sheet sheet') where
  answer-is : (sheet_refusal n floor a b m us vs betas (length sheet) ≡ 0) × (long ≡ sheet_length (length a) (length betas) (length us))
  answer-is = (sym w.answer.0, w.answer.1)

  sizes_pass : (some_oversized m ≡ false) × (some_oversized betas ≡ false)
  sizes_pass = sizes n floor a b m us vs betas (length sheet) answer-is.0

  long-is : length (sheet_of (given n floor a b m us vs betas)) ≡ long
  long-is = sheet-length (given n floor a b m us vs betas) ∙ ap (λ (k : ℕ). sheet_length (length a) k (length us)) (bits-length betas) ∙ sym answer-is.1

  buffer_is : sheet' ≡ over (sheet_of (given n floor a b m us vs betas)) sheet
  buffer_is = w.written ∙ ap (λ (k : ℕ). left k (over (sheet_of (given n floor a b m us vs betas)) sheet) sheet) answer-is.0

  -- The bytes that were written are the sheet of the job,
  pub written-bytes : take long sheet' ≡ sheet_of (given n floor a b m us vs betas)
  written-bytes = ap (take long) buffer_is ∙ take_at (sheet_of (given n floor a b m us vs betas)) _ long long-is

  module _ (d : Doubles m) (e : Doubles betas) where
    -- the reader accepts them,
    pub written-accepted : counts_of (take long sheet') ≡ counted (length a) (length betas) (length us)
    written-accepted =
        ap counts_of written-bytes ∙ written-is-accepted _ (fits-given n floor a b m us vs betas (length sheet) answer-is.0 d e)
        ∙ ap (λ (k : ℕ). counted (length a) k (length us)) (bits-length betas)

    -- and the job read from them is the one written:
    pub written_job_read : job_of (take long sheet') ≡ given n floor a b m us vs betas
    written_job_read = ap job_of written-bytes ∙ read_what_was_written _ (fits-given n floor a b m us vs betas (length sheet) answer-is.0 d e)

    -- its doubles are the doubles of its bits.
    pub written_doubles : (doubles_of (bits_of m) ≡ m) × (doubles_of (bits_of betas) ≡ betas)
    written_doubles = (doubles_of_bits m d, doubles_of_bits betas e)

-- A call that writes the job of an accepted sheet leaves that sheet at the buffer's front, and its length is the answer.
module _ (bytes : List ℕ) (b : Bytes bytes) (accepted : (counts_of bytes).refusal ≡ 0) (long : ℕ) (sheet sheet' : List ℕ)
    (w : Wrote (job_of bytes).vertices (job_of bytes).floor (job_of bytes).ones (job_of bytes).others (doubles_of (job_of bytes).magnitudes)
    (job_of bytes).firsts (job_of bytes).seconds (doubles_of (job_of bytes).betas) (Ok long) sheet sheet') where
  passes : (some_oversized (doubles_of (job_of bytes).magnitudes) ≡ false) × (some_oversized (doubles_of (job_of bytes).betas) ≡ false)
  passes = sizes_pass _ _ _ _ _ _ _ _ long sheet sheet' w

  -- the job handed in is the one in the sheet
  same-job : given (job_of bytes).vertices (job_of bytes).floor (job_of bytes).ones (job_of bytes).others (doubles_of (job_of bytes).magnitudes)
      (job_of bytes).firsts (job_of bytes).seconds (doubles_of (job_of bytes).betas) ≡ job_of bytes
  same-job =
      let f = read_fits bytes b accepted in
      rw (bits_of_doubles (job_of bytes).magnitudes f.magnitudes passes.0, bits_of_doubles (job_of bytes).betas f.betas passes.1)

  same-sheet : sheet_of (given (job_of bytes).vertices (job_of bytes).floor (job_of bytes).ones (job_of bytes).others (doubles_of (job_of bytes).magnitudes)
      (job_of bytes).firsts (job_of bytes).seconds (doubles_of (job_of bytes).betas)) ≡ bytes
  same-sheet = ap sheet_of same-job ∙ written_as_it_was_read bytes b accepted

  pub written_unchanged : (sheet' ≡ over bytes sheet) × (long ≡ length bytes)
  written_unchanged = (
    buffer_is _ _ _ _ _ _ _ _ long sheet sheet' w ∙ ap (λ (l : List ℕ). over l sheet) same-sheet,
    sym (long-is _ _ _ _ _ _ _ _ long sheet sheet' w) ∙ ap length same-sheet,
  )
