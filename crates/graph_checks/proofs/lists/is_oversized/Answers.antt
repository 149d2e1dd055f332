-- The tests, one after the other.
use Rattle.graph_checks.proofs.lists.is_oversized.Goals as goal

pub returns-then-x-2 : goal.returns-then-x-2
returns-then-x-2 c = simp (c.if-x.true, c.if-x-2.true)

pub returns-else-x-2 : goal.returns-else-x-2
returns-else-x-2 c = simp (c.if-x.true, c.if-x-2.false)

pub returns-else-x : goal.returns-else-x
returns-else-x c = simp c.if-x.false
