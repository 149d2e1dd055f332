-- What the writer answers and leaves in the buffer.
use Rattle.std.specs.Prelude.{◌≡◌, Result, List, [], ◌∷◌, ◌++◌, ℕ, ltb, Float, length}
use Rattle.list_laws.specs.Front.{over}
use Rattle.refusals.specs.Key.{Key}
use Rattle.refusals.specs.Request.{Request, plain_request}
use Rattle.refusals.specs.Refusal.{refusal, of_room}
use Rattle.refusals.specs.Answers.{Answered, left}
use Rattle.refusals.specs.declared.Refusal.{Refusal}
use Rattle.job_sheet.specs.Sheets.{sheet_length}
use Rattle.job_sheet_bytes.specs.Jobs.{given, sheet_of}

-- Its checks are 1 to 8, 21 among them, and 12.
abbrev pub of_sheet : List Key
of_sheet = of_room ++ (Key.buffers ∷ [])

-- It is given a job with betas, and a buffer of so many bytes: too short is shorter than the sheet.
abbrev pub sheet_request : (n floor : ℕ) → (a b : List ℕ) → List Float → (us vs : List ℕ) → List Float → (room : ℕ) → Request
sheet_request n floor a b m us vs betas room = plain_request n floor a b m us vs betas (ltb room (sheet_length (length a) (length betas) (length us)))

abbrev pub sheet_refusal : (n floor : ℕ) → (a b : List ℕ) → List Float → (us vs : List ℕ) → List Float → (room : ℕ) → ℕ
sheet_refusal n floor a b m us vs betas room = refusal of_sheet (sheet_request n floor a b m us vs betas room)

-- The answer r of a call, and the buffer after it: the sheet at its front, or as it was.
pub record Wrote (n floor : ℕ) (a b : List ℕ) (m : List Float) (us vs : List ℕ) (betas : List Float) (r : Result ℕ Refusal) (sheet sheet' : List ℕ) : Type 0 where
  pub answer : Answered (sheet_refusal n floor a b m us vs betas (length sheet)) (sheet_length (length a) (length betas) (length us)) r
  pub written : sheet' ≡ left (sheet_refusal n floor a b m us vs betas (length sheet)) (over (sheet_of (given n floor a b m us vs betas)) sheet) sheet
