-- The tests, one after the other.
use borrow.Author.Tests.{eq-eqb, ne_eqb}
use Rattle.buffer_checks.proofs.totals.misfit.Goals as goal

pub returns-then-squares-wanted : goal.returns-then-squares-wanted
returns-then-squares-wanted c = simp (ne_eqb _ _ c.if-squares-wanted.true)

pub returns : goal.returns
returns c = simp (eq-eqb _ _ c.if-squares-wanted.false)
