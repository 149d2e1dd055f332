-- By the tests in turn.
use Rattle.shares.proofs.entries.is_half.Goals as goal

pub returns-then-x : goal.returns-then-x
returns-then-x c = rw c.if-x.true

pub returns : goal.returns
returns c = rw c.if-x.false
