-- Both branches are what the contract says.
use Rattle.largest_entry.specs.Larger.{larger}
use Rattle.largest_entry.proofs.larger_of.Goals as goal

pub returns-then-x-a : goal.returns-then-x-a
unfolding larger
returns-then-x-a c = rw c.if-x-a.true

pub returns-else-x-a : goal.returns-else-x-a
unfolding larger
returns-else-x-a c = rw c.if-x-a.false
