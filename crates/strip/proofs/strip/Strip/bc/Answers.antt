-- The name of each boundary.
use borrow.Author.Rules.{rules}
use Rattle.strip.proofs.strip.Strip.bc.Goals as goal

pub six-requires : goal.six-requires
six-requires c = search rules

pub returns-then-self : goal.returns-then-self
returns-then-self c = rw c.if-self.true c.six.ensures

pub six-requires-2 : goal.six-requires-2
six-requires-2 c = search rules

pub returns : goal.returns
returns c = rw c.if-self.false c.six-2.ensures
