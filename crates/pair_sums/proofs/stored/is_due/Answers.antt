-- By cases on the manner.
use Rattle.pair_sums.specs.Stored.{due}
use Rattle.pair_sums.proofs.stored.is_due.Goals as goal

pub returns-then-elementwise : goal.returns-then-elementwise
unfolding due
returns-then-elementwise c = rw c.if-elementwise.true

pub returns : goal.returns
unfolding due
returns c = rw c.if-elementwise.false
