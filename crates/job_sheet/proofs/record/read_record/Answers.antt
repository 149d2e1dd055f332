-- The refusal, or the record, which is whole.
use Rattle.std.proofs.lemmas.Result.{err_from_is_err_and}
use Rattle.std.specs.declared.result.Result.TheVariants.{Ok}
use mathlib.Core.Path.{sym, ap, ◌∙◌}
use Rattle.refusals.proofs.Laws.Answers.{number-not_zero}
use native.Mathlib.Omega.{arith}
use Rattle.job_sheet.proofs.Laws.Records.{answer-refused, answer_read, accepted, accepted-within}
use Rattle.job_sheet.proofs.record.read_record.Goals as goal

pub returns-in_err-check_record : goal.returns-in_err-check_record
returns-in_err-check_record c =
    let p = err_from_is_err_and c.from_residual.result c.from_residual.ensures.1 in
    rw (p.1, p.2) (answer-refused _ _ _ _ c.in_err-check_record.ensures (number-not_zero _))

pub bounds-sheet-place : goal.bounds-sheet-place
bounds-sheet-place c =
    accepted-within _ _ _ (sym c.in_ok-check_record.ensures)

pub overflow_cast-sheet : goal.overflow_cast-sheet
overflow_cast-sheet c = omega (arith, c.type_inv.sheet c.args.place)

pub whole_record-requires : goal.whole_record-requires
whole_record-requires c = (accepted _ _ _ (sym c.in_ok-check_record.ensures)).whole

pub returns : goal.returns
returns c =
    ap Ok c.whole_record.ensures ∙ sym (answer_read _ _ _ (sym c.in_ok-check_record.ensures))
