-- By the tests in turn.
use borrow.Author.Tests.{eq-eqb, ne_eqb}
use Rattle.shares.proofs.lists.bad_length.Goals as goal

pub returns-then-entries-eq0 : goal.returns-then-entries-eq0
returns-then-entries-eq0 c = rw (eq-eqb c.args.entries 0 c.if-entries-eq0.true)

pub returns-else-entries-eq0 : goal.returns-else-entries-eq0
returns-else-entries-eq0 c = rw (ne_eqb c.args.entries 0 c.if-entries-eq0.false)
