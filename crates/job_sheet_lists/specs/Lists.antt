-- What reading a whole sheet answers and leaves in the lists.
use Rattle.std.specs.Prelude.{◌≡◌, Bool, cond, ◌||◌, List, ℕ, ◌+◌, ◌*◌, ◌≤◌, ◌<◌, eqb, ltb, length}
use Rattle.std.specs.declared.result.Result.{Result}
use Rattle.list_laws.specs.Front.{over}
use Rattle.refusals.specs.declared.Refusal.{Refusal}
use Rattle.refusals.specs.Answers.{Answered, left}
use Rattle.job_sheet.specs.Counts.{counts_of}
use Rattle.job_sheet_bytes.specs.Jobs.{job_of}
use Rattle.job_sheet_lists.specs.declared.answer.SheetJob.{SheetJob}

-- 12: a list is shorter than the sheet has records for it
abbrev pub short_lists : List ℕ → (a b m betas us vs : ℕ) → Bool
short_lists sheet a b m betas us vs =
    let c = counts_of sheet in
    (ltb a c.edges || ltb b c.edges) || ((ltb m c.edges || ltb betas c.betas) || (ltb us c.pairs || ltb vs c.pairs))

-- 19 and 20 as the reader has them, then 12
abbrev pub lists_refusal : List ℕ → (a b m betas us vs : ℕ) → ℕ
lists_refusal sheet a b m betas us vs =
    cond (eqb (counts_of sheet).refusal 0) (cond (short_lists sheet a b m betas us vs) 12 0) (counts_of sheet).refusal

-- an accepted sheet's numbers
abbrev pub numbers_of : List ℕ → SheetJob
numbers_of sheet = record {
  n = (job_of sheet).vertices;
  floor = (job_of sheet).floor;
  edges = (counts_of sheet).edges;
  betas = (counts_of sheet).betas;
  pairs = (counts_of sheet).pairs;
}

-- the number that a call with these lists answers
abbrev pub refusal_of : List ℕ → (a b m betas us vs : List ℕ) → ℕ
refusal_of sheet a b m betas us vs = lists_refusal sheet (length a) (length b) (length m) (length betas) (length us) (length vs)

-- The answer r of a call, and the lists after it: the sheet's job at their fronts, or as they were.
pub record ReadJob (sheet : List ℕ) (r : Result SheetJob Refusal) (a a' b b' m m' x x' us us' vs vs' : List ℕ) : Type 0 where
  pub answer : Answered (refusal_of sheet a b m x us vs) (numbers_of sheet) r
  pub ones : a' ≡ left (refusal_of sheet a b m x us vs) (over (job_of sheet).ones a) a
  pub others : b' ≡ left (refusal_of sheet a b m x us vs) (over (job_of sheet).others b) b
  pub magnitudes : m' ≡ left (refusal_of sheet a b m x us vs) (over (job_of sheet).magnitudes m) m
  pub betas : x' ≡ left (refusal_of sheet a b m x us vs) (over (job_of sheet).betas x) x
  pub firsts : us' ≡ left (refusal_of sheet a b m x us vs) (over (job_of sheet).firsts us) us
  pub seconds : vs' ≡ left (refusal_of sheet a b m x us vs) (over (job_of sheet).seconds vs) vs

-- so many fields of a width lie in the sheet, and as many fit a list
pub record Loads (sheet : List ℕ) (place step offset width count room : ℕ) : Type 0 where
  pub fits : count ≤ room
  pub lie : (i : ℕ) → i < count → place + step * i + offset + width ≤ length sheet
