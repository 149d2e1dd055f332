use Rattle.std.proofs.lemmas.Result.{err_from_is_err_and}
use mathlib.Core.Path.{refl, sym, ap}
use native.Mathlib.Omega.{arith}
use Rattle.refusals.proofs.Laws.Answers.{number-not_zero}
use Rattle.job_sheet.specs.Counts.{SheetCounts}
use Rattle.job_sheet.proofs.Laws.Records.{accepted, accepted-within}
use Rattle.job_sheet.proofs.Laws.Counts.{reached-start, stopped_refused, stopped_end, next-reached, next_less}
use Rattle.job_sheet.proofs.counts.count_records.Goals as goal

pub loop-kind-init : goal.loop-kind-init
loop-kind-init c = reached-start _

pub returns-in_err-check_record : goal.returns-in_err-check_record
returns-in_err-check_record c =
    let p = err_from_is_err_and c.from_residual.result c.from_residual.ensures.1 in
    rw (p.1, p.2) (ap (λ (s : SheetCounts). s.refusal) (stopped_refused _ _ c.loop-kind.invariant _ c.in_err-check_record.ensures (number-not_zero _)), tt)

pub bounds-sheet-place : goal.bounds-sheet-place
bounds-sheet-place c = accepted-within _ _ _ (sym c.in_ok-check_record.ensures)

pub overflow_cast-kind : goal.overflow_cast-kind
overflow_cast-kind c = omega (arith, c.type_inv.sheet c.loop-kind.at.place)

pub returns-then-kind-ge5 : goal.returns-then-kind-ge5
returns-then-kind-ge5 c =
    rw (← (stopped_end _ _ c.loop-kind.invariant (sym c.in_ok-check_record.ensures) c.if-kind-ge5.true)) (refl, refl)

pub read_on-at-requires : goal.read_on-at-requires
read_on-at-requires c =
    (c.loop-kind.invariant.passed, omega (arith, (accepted _ _ _ (sym c.in_ok-check_record.ensures)).whole))

pub loop-kind-smaller : goal.loop-kind-smaller
loop-kind-smaller c =
    next_less _ _ _ c.read_on-at.ensures (sym c.in_ok-check_record.ensures)

pub loop-kind-preserved : goal.loop-kind-preserved
loop-kind-preserved c =
    next-reached _ _ _ c.read_on-at.ensures (sym c.in_ok-check_record.ensures) c.loop-kind.invariant c.if-kind-ge5.false
