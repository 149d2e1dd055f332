-- By the test.
use mathlib.Core.Path.{refl}
use Rattle.pair_places.proofs.pairs.waits.Goals as goal

pub returns-then-less : goal.returns-then-less
returns-then-less c = rw c.if-less.true c.is_propagated.ensures

pub returns : goal.returns
returns c = rw c.if-less.false refl
