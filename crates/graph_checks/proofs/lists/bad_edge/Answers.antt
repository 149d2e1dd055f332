-- The tests, one after the other.
use borrow.Author.Tests.{eq-eqb, ne_eqb}
use borrow.Author.Rules.{rules}
use Rattle.graph_checks.proofs.lists.bad_edge.Goals as goal

pub returns-then-x-y : goal.returns-then-x-y
returns-then-x-y c = simp (eq-eqb _ _ c.if-x-y.true)

pub is_outside-requires : goal.is_outside-requires
is_outside-requires c = search rules

pub returns : goal.returns
returns c = simp (ne_eqb _ _ c.if-x-y.false) c.is_outside.ensures
