-- What reading a whole sheet leaves in references and lists.
use Rattle.std.specs.Prelude.{◌≡◌, List, ℕ}
use Rattle.std.specs.declared.result.Result.{Result}
use Rattle.std.specs.declared.result.Result.TheVariants.{Ok, Err}
use Rattle.list_laws.specs.Front.{over}
use Rattle.refusals.specs.declared.Refusal.{Refusal}
use Rattle.refusals.specs.Numbers.{refused}
use Rattle.refusals.specs.Answers.{left}
use Rattle.job_sheet.specs.Counts.{counts_of}
use Rattle.job_sheet_bytes.specs.Jobs.{job_of}
use Rattle.job_sheet_lists.specs.Lists.{refusal_of}
use Rattle.job_sheet_lists.specs.declared.answer.SheetJob.{SheetJob}

-- what an answered job leaves where the number `old` stood: a number of it, or `old` where the sheet is refused
abbrev pub part_in : (SheetJob → ℕ) → Result SheetJob Refusal → (old : ℕ) → ℕ
part_in part (Ok job) old = part job
part_in part (Err e) old = old

-- the numbers of a sheet's job
pub record TellsJob (answer : Result SheetJob Refusal) (r n n' floor floor' edges edges' pairs pairs' betas betas' : ℕ) : Type 0 where
  pub number : r ≡ refused answer
  pub vertices : n' ≡ part_in (λ job. job.n) answer n
  pub floors : floor' ≡ part_in (λ job. job.floor) answer floor
  pub some_edges : edges' ≡ part_in (λ job. job.edges) answer edges
  pub some_pairs : pairs' ≡ part_in (λ job. job.pairs) answer pairs
  pub some-betas : betas' ≡ part_in (λ job. job.betas) answer betas

-- A call's answer r, and what it leaves: the job of the sheet, or all as it was.
pub record Told (sheet : List ℕ) (r n n' floor floor' : ℕ) (a a' b b' m m' us us' vs vs' x x' : List ℕ) (edges edges' pairs pairs' betas betas' : ℕ) : Type 0 where
  pub answer : r ≡ refusal_of sheet a b m x us vs
  pub vertices : n' ≡ left r (job_of sheet).vertices n
  pub floors : floor' ≡ left r (job_of sheet).floor floor
  pub ones : a' ≡ left r (over (job_of sheet).ones a) a
  pub others : b' ≡ left r (over (job_of sheet).others b) b
  pub magnitudes : m' ≡ left r (over (job_of sheet).magnitudes m) m
  pub firsts : us' ≡ left r (over (job_of sheet).firsts us) us
  pub seconds : vs' ≡ left r (over (job_of sheet).seconds vs) vs
  pub values : x' ≡ left r (over (job_of sheet).betas x) x
  pub some_edges : edges' ≡ left r (counts_of sheet).edges edges
  pub some_pairs : pairs' ≡ left r (counts_of sheet).pairs pairs
  pub some-betas : betas' ≡ left r (counts_of sheet).betas betas
