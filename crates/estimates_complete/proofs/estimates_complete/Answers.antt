-- A refused call leaves the columns; of another the lists fit and the count is a double, and the columns are filled.
use Rattle.std.proofs.lemmas.Result.{err_from_is_err_and}
use mathlib.Core.Path.{sym}
use lib.ListN.{length}
use Rattle.rounding.proofs.Laws.Scaled.{castable}
use Rattle.refusals.proofs.Laws.Answers.{left_alone, number-not_zero}
use Rattle.estimate_complete.proofs.Laws.Counted.{complete_power, few-enough}
use Rattle.estimates_complete.proofs.Laws.Accepted.{fitting, counted}
use Rattle.estimates_complete.proofs.estimates_complete.Goals as goal

pub returns-in_err-refuse : goal.returns-in_err-refuse
returns-in_err-refuse c =
    let p = err_from_is_err_and c.from_residual.result c.from_residual.ensures.1 in
    let a = c.args in
    rw (p.1, p.2) record {
      answer = c.in_err-refuse.ensures;
      mean-column = left_alone _ _ a.means.now (number-not_zero _);
      error-column = left_alone _ _ a.errors.now (number-not_zero _);
      spread-column = left_alone _ _ a.spreads.now (number-not_zero _);
    }

pub int_to_float-count : goal.int_to_float-count
int_to_float-count c =
    let a = c.args in
    castable (few-enough (complete_power a.count
    (counted a.count a.squares.now a.fourths.now (length a.means.now) (length a.errors.now) (length a.spreads.now) (sym c.in_ok-refuse.ensures))))

pub fill_columns-requires : goal.fill_columns-requires
fill_columns-requires c =
    let a = c.args in
    fitting a.count a.squares.now a.fourths.now (length a.means.now) (length a.errors.now) (length a.spreads.now) (sym c.in_ok-refuse.ensures)

pub returns : goal.returns
returns c =
    let f = c.fill_columns.ensures in
    record { answer = c.in_ok-refuse.ensures; mean-column = f.means_after; error-column = f.errors_after; spread-column = f.spreads_after }
