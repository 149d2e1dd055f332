-- The reader accepts exactly the sheets that the grammar has, and 20 is answered exactly of a sheet with bytes behind it; of all other bytes 19 is.
use Rattle.std.specs.Prelude.{◌≡◌, true, List, ◌⊎◌, ℕ, ◌≤◌, ◌<◌, length}
use Rattle.std.proofs.Common.{◌∙◌, arith, lt-ltb, le-ltb}
use Rattle.job_sheet.specs.Records.{bad_record, refusal_at}
use Rattle.job_sheet.specs.Counts.{counted, refused, counts_of}
use Rattle.job_sheet.specs.Sheets.{sheet_length, Front, Sheet}
use Rattle.job_sheet.proofs.Laws.Records.{from_five}
use Rattle.job_sheet.proofs.Laws.Accepted.{counts_tell}
use Rattle.job_sheet.proofs.Laws.Grammar.{front-told}

module _ (bytes : List ℕ) where
  -- What is accepted is a sheet,
  pub accepted-is-sheet : (counts_of bytes).refusal ≡ 0 → Sheet bytes (counts_of bytes).edges (counts_of bytes).betas (counts_of bytes).pairs
  accepted-is-sheet = (counts_tell bytes).whole

  -- every sheet is accepted,
  pub sheet-is-accepted : (edges betas pairs : ℕ) → Sheet bytes edges betas pairs → counts_of bytes ≡ counted edges betas pairs
  sheet-is-accepted edges betas pairs s =
      let z = s.size in
      front-told bytes edges betas pairs s.front (omega arith) ∙ rw (le-ltb (sheet_length edges betas pairs) (length bytes) (omega arith))

  -- with bytes behind it it is refused by 20,
  pub tail-is-refused : (edges betas pairs : ℕ) → Front bytes edges betas pairs → sheet_length edges betas pairs < length bytes → counts_of bytes ≡ refused 20
  tail-is-refused edges betas pairs f h =
      front-told bytes edges betas pairs f (omega arith) ∙ rw (lt-ltb (sheet_length edges betas pairs) (length bytes) h)

  -- and 20 is answered of nothing else,
  pub refused_has_tail : (counts_of bytes).refusal ≡ 20 → (e : ℕ) × (b : ℕ) × (p : ℕ) × Front bytes e b p × (sheet_length e b p < length bytes)
  refused_has_tail = (counts_tell bytes).tail

  -- nor is another number than these two answered.
  pub sheet-numbers : ((counts_of bytes).refusal ≡ 0) ⊎ (((counts_of bytes).refusal ≡ 19) ⊎ ((counts_of bytes).refusal ≡ 20))
  sheet-numbers = (counts_tell bytes).number

  -- 19 stands before 20: bytes behind an end that is out of order do not matter.
  pub order-before-tail : (place last : ℕ) → bad_record bytes place last ≡ true → refusal_at bytes place last ≡ 19
  unfolding refusal_at
  order-before-tail place last h = rw h

  -- From 5 on the reader has no record: 19.
  pub nothing_from_five : (place last : ℕ) → 5 ≤ last → refusal_at bytes place last ≡ 19
  nothing_from_five place last h = from_five bytes place last h
