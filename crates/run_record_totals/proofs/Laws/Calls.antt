-- A call by its cases, in the order of the checks.
use Rattle.std.specs.Prelude.{◌≡◌, true, false, not, List, ℕ, eqb, Float, length}
use Rattle.std.proofs.Common.{eqb-true}
use Rattle.std.proofs.lemmas.Bool.{not-false}
use Rattle.list_laws.proofs.Laws.Search.{or-false}
use Rattle.refusals.specs.AcceptedTotals.{misfits}
use Rattle.std.specs.declared.result.Result.TheVariants.{Ok, Err}
use Rattle.refusals.specs.declared.Refusal.TheVariants as R
use Rattle.run_record.specs.Records.{per_chunk}
use Rattle.run_record.specs.Reading.{head_of, bad_record}
use Rattle.run_record_totals.specs.Totals.{total_squares, total_fourths, record_count, Totalled}

-- lists that do not misfit have the length that is wanted
pub both_fit : (wanted squares fourths : ℕ) → misfits wanted squares fourths ≡ false → (squares ≡ wanted) × (fourths ≡ wanted)
both_fit wanted squares fourths e =
    let x = or-false (not (eqb squares wanted)) (not (eqb fourths wanted)) e in
    (eqb-true _ _ (not-false _ x.0), eqb-true _ _ (not-false _ x.1))

module _ (bytes : List ℕ) (squares fourths : List Float) where
  pub refused-26 : bad_record bytes ≡ true → Totalled bytes (Err R.Record) squares squares fourths fourths
  refused-26 e = record { answer = (rw e, tt); squares_are = rw e; fourths_are = rw e }

  module _ (good : bad_record bytes ≡ false) where
    pub refused-12 : misfits (per_chunk (head_of bytes)) (length squares) (length fourths) ≡ true → Totalled bytes (Err R.Buffer) squares squares fourths fourths
    refused-12 m = record { answer = (rw (good, m), tt); squares_are = rw (good, m); fourths_are = rw (good, m) }

    pub accepted : misfits (per_chunk (head_of bytes)) (length squares) (length fourths) ≡ false → (squares' fourths' : List Float) (n : ℕ)
        → squares' ≡ total_squares bytes → fourths' ≡ total_fourths bytes → n ≡ record_count bytes → Totalled bytes (Ok n) squares squares' fourths fourths'
    accepted m squares' fourths' n s f c = record { answer = (rw (good, m), c); squares_are = rw (good, m, s); fourths_are = rw (good, m, f) }
