-- At the place itself zero, elsewhere what is there.
use Rattle.refusals.proofs.Laws.Dropping.{dropping-at, dropping_beside}
use Rattle.graph_checks.proofs.lists.magnitude_dropping.Goals as goal

pub returns-then-i-dropped : goal.returns-then-i-dropped
returns-then-i-dropped c = let x = c.args in dropping-at x.m.now x.dropped x.i c.if-i-dropped.true c.requires

pub returns-else-i-dropped : goal.returns-else-i-dropped
returns-else-i-dropped c = let x = c.args in dropping_beside x.m.now x.dropped x.i c.if-i-dropped.false
