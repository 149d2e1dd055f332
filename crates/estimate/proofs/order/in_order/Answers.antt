-- By the tests in turn.
use Rattle.estimate.proofs.order.in_order.Goals as goal

pub returns-then-fourths-squares : goal.returns-then-fourths-squares
returns-then-fourths-squares c = rw (c.if-fourths.true, c.if-fourths-squares.true)

pub returns-else-fourths-squares : goal.returns-else-fourths-squares
returns-else-fourths-squares c = rw (c.if-fourths.true, c.if-fourths-squares.false)

pub returns-else-fourths : goal.returns-else-fourths
returns-else-fourths c = rw c.if-fourths.false
