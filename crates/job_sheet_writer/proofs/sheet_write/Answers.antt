-- The checks of the job, the length of the buffer, and the sheet.
use Rattle.std.proofs.lemmas.Result.{err_from_is_err_and}
use native.Mathlib.Omega.{arith}
use Rattle.job_sheet_writer.proofs.Laws.Calls.{refused-job, few, too_short, room, done}
use Rattle.job_sheet_writer.proofs.sheet_write.Goals as goal

pub returns-in_err-check_with_betas : goal.returns-in_err-check_with_betas
returns-in_err-check_with_betas c =
    let p = err_from_is_err_and c.from_residual.result c.from_residual.ensures.1 in
    rw (p.1, p.2) (refused-job c.args.sheet.now c.in_err-check_with_betas.ensures)

pub overflow_add-long-2 : goal.overflow_add-long-2
overflow_add-long-2 c = omega (arith, few c.args.sheet.now c.in_ok-check_with_betas.ensures)

pub overflow_add-long-3 : goal.overflow_add-long-3
overflow_add-long-3 c = omega (arith, few c.args.sheet.now c.in_ok-check_with_betas.ensures)

pub returns-then-sheet-long : goal.returns-then-sheet-long
returns-then-sheet-long c = too_short c.args.sheet.now c.in_ok-check_with_betas.ensures (omega arith)

pub put_sheet-requires : goal.put_sheet-requires
put_sheet-requires c = room c.args.sheet.now c.in_ok-check_with_betas.ensures (omega arith)

pub returns : goal.returns
returns c = done c.args.sheet.now c.in_ok-check_with_betas.ensures (omega arith) _ _ (omega arith) c.put_sheet.ensures
