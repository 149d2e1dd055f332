-- What the answer that was told says.
use Rattle.export_graphs.proofs.Told.{kept-told}
use borrow.Author.Rules.{rules}
use Rattle.export_graphs.proofs.graphs.copperhook_graph.Goals as goal

pub new-answer-requires : goal.new-answer-requires
new-answer-requires c = search rules

pub tell_graph-requires : goal.tell_graph-requires
tell_graph-requires c = search rules

pub returns : goal.returns
returns c = kept-told _ _ _ _ c.new-answer.ensures c.tell_graph.ensures
