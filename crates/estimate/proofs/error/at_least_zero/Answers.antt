-- By the one test.
use Rattle.estimate.proofs.error.at_least_zero.Goals as goal

pub returns-then-v : goal.returns-then-v
returns-then-v c = rw c.if-v.true

pub returns-else-v : goal.returns-else-v
returns-else-v c = rw c.if-v.false
