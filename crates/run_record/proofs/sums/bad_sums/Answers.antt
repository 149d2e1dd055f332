-- -0.0 by its pattern, then the order.
use native.Mathlib.Omega.{arith}
use Rattle.rounding.proofs.Laws.Scaled.{castable}
use Rattle.run_record.proofs.Laws.Sums.{minus-squares, minus-fourths, ordered_or_bad}
use Rattle.run_record.proofs.sums.bad_sums.Goals as goal

pub returns-then-squares-eq-MINUS_ZERO : goal.returns-then-squares-eq-MINUS_ZERO
returns-then-squares-eq-MINUS_ZERO c = let a = c.args in minus-squares a.samples a.squares a.fourths (omega arith) (omega arith) c.if-squares-eq-MINUS_ZERO.true

pub returns-then-fourths-eq-MINUS_ZERO : goal.returns-then-fourths-eq-MINUS_ZERO
returns-then-fourths-eq-MINUS_ZERO c = let a = c.args in minus-fourths a.samples a.squares a.fourths (omega arith) (omega arith) c.if-fourths-eq-MINUS_ZERO.true

pub int_to_float-n : goal.int_to_float-n
int_to_float-n c = castable (omega arith)

pub returns : goal.returns
returns c =
    let a = c.args in
    rw (c.in_order.ensures, c.double_of-2.ensures, c.double_of.ensures)
    (ordered_or_bad a.samples a.squares a.fourths (omega arith) (omega arith) (omega arith) (omega arith))
