-- A refused call leaves the columns; of another the lists fit, and the columns are filled.
use Rattle.std.proofs.lemmas.Result.{err_from_is_err_and}
use mathlib.Core.Path.{sym}
use lib.ListN.{length}
use Rattle.refusals.proofs.Laws.Answers.{left_alone, number-not_zero}
use Rattle.estimates.proofs.Laws.Accepted.{fitting}
use Rattle.estimates.proofs.estimates.Goals as goal

pub returns-in_err-refuse : goal.returns-in_err-refuse
returns-in_err-refuse c =
    let p = err_from_is_err_and c.from_residual.result c.from_residual.ensures.1 in
    let a = c.args in
    rw (p.1, p.2) record {
      answer = c.in_err-refuse.ensures;
      mean-column = left_alone _ _ a.means.now (number-not_zero _);
      error-column = left_alone _ _ a.errors.now (number-not_zero _);
    }

pub fill_columns-requires : goal.fill_columns-requires
fill_columns-requires c =
    let a = c.args in
    fitting a.count a.squares.now a.fourths.now (length a.means.now) (length a.errors.now) (sym c.in_ok-refuse.ensures)

pub returns : goal.returns
returns c =
    let f = c.fill_columns.ensures in
    record { answer = c.in_ok-refuse.ensures; mean-column = f.means_after; error-column = f.errors_after }
