-- A whole sheet, read record by record from its first byte on: how many records it has of each kind, or the number that the reader answers.
use Rattle.std.specs.Prelude.{cond, List, ℕ, zero, suc, ◌+◌, ◌≤◌, eqb, ltb, length}
use Rattle.job_sheet.specs.Records.{kind_at, record_length, refusal_at}
use Rattle.job_sheet.specs.declared.counts.Counts.{Counts}
use Rattle.job_sheet.specs.declared.counts.Reading.{Reading}

-- the number that refuses a sheet, 0 for accepted, and its numbers of records
pub record SheetCounts : Type 0 where
  pub refusal : ℕ
  pub edges : ℕ
  pub betas : ℕ
  pub pairs : ℕ

abbrev pub counted : (edges betas pairs : ℕ) → SheetCounts
counted edges betas pairs = record { refusal = 0; edges = edges; betas = betas; pairs = pairs }

abbrev pub refused : ℕ → SheetCounts
refused k = record { refusal = k; edges = 0; betas = 0; pairs = 0 }

-- what is answered of an accepted sheet
abbrev pub records_of : SheetCounts → Counts
records_of c = record { edges = c.edges; betas = c.betas; pairs = c.pairs }

-- where a reading begins
abbrev pub start : Reading
start = record { place = 0; last = 0; edges = 0; betas = 0; pairs = 0 }

-- where it is behind a record of a kind
unfoldable pub behind : Reading → (kind : ℕ) → Reading
behind at kind = record {
  place = at.place + record_length kind;
  last = kind;
  edges = at.edges + cond (eqb kind 2) 1 0;
  betas = at.betas + cond (eqb kind 3) 1 0;
  pairs = at.pairs + cond (eqb kind 4) 1 0;
}

-- no more records are read than bytes
pub record Passed (at : Reading) : Type 0 where
  pub edges : at.edges ≤ at.place
  pub betas : at.betas ≤ at.place
  pub pairs : at.pairs ≤ at.place

-- One call of the reader after another, up to a number of calls that no sheet needs.
unfoldable pub read_from : (calls : ℕ) → List ℕ → Reading → SheetCounts
read_from zero sheet at = refused 19
read_from (suc calls) sheet at =
    let refusal = refusal_at sheet at.place at.last in
    let kind = kind_at sheet at.place in
    cond (eqb refusal 0)
    (cond (ltb kind 5) (read_from calls sheet (behind at kind)) (counted at.edges at.betas at.pairs))
    (refused refusal)

-- each record has a byte at least
unfoldable pub counts_of : List ℕ → SheetCounts
counts_of sheet = read_from (length sheet + 1) sheet start
