-- The tests, one after the other.
use borrow.Author.Tests.{eq-eqb, ne_eqb}
use Rattle.graph_checks.proofs.lists.bad_vertices.Goals as goal

pub returns-then-n-eq0 : goal.returns-then-n-eq0
returns-then-n-eq0 c = simp (eq-eqb _ _ c.if-n-eq0.true)

pub returns-else-n-eq0 : goal.returns-else-n-eq0
returns-else-n-eq0 c = simp (ne_eqb _ _ c.if-n-eq0.false)
