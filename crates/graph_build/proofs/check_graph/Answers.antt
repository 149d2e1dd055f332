-- Past the end no magnitude is dropped.
use Rattle.refusals.proofs.Laws.Dropping.{dropping-none}
use Rattle.graph_build.proofs.check_graph.Goals as goal

pub returns : goal.returns
returns c = rw (dropping-none c.args.m.now) at c.check_graph_dropping.ensures
