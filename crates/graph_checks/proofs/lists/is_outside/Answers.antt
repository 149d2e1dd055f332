-- The tests, one after the other.
use borrow.Author.Tests.{le-leb, lt-leb}
use Rattle.graph_checks.proofs.lists.is_outside.Goals as goal

pub returns-then-n-u : goal.returns-then-n-u
returns-then-n-u c = simp (le-leb _ _ c.if-n-u.true)

pub returns : goal.returns
returns c = simp (lt-leb _ _ c.if-n-u.false)
