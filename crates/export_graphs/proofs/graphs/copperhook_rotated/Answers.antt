-- What the answer that was told says.
use Rattle.export_graphs.proofs.Told.{kept-told}
use borrow.Author.Rules.{rules}
use Rattle.export_graphs.proofs.graphs.copperhook_rotated.Goals as goal

pub rotated-answer-requires : goal.rotated-answer-requires
rotated-answer-requires c = search rules

pub tell_graph-requires : goal.tell_graph-requires
tell_graph-requires c = search rules

pub returns : goal.returns
returns c = kept-told _ _ _ _ c.rotated-answer.ensures c.tell_graph.ensures
