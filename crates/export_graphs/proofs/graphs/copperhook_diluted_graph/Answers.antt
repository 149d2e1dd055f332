-- What the answer that was told says, for the strip that the numbers name.
use Rattle.export_graphs.proofs.Told.{kept-told}
use Rattle.export_graphs.proofs.graphs.copperhook_diluted_graph.Goals as goal

pub returns : goal.returns
returns c = kept-told _ _ _ _ (rw c.strip_numbered-strip.ensures at c.diluted_graph-answer.ensures) c.tell_graph.ensures
