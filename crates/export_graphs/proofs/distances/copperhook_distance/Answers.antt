-- What the answer that was told says.
use Rattle.export_graphs.proofs.Told.{distance-told}
use borrow.Author.Rules.{rules}
use Rattle.c_answers.proofs.Laws.Found.{distance as told-distance}
use Rattle.export_graphs.proofs.distances.copperhook_distance.Goals as goal

pub distance-answer-requires : goal.distance-answer-requires
distance-answer-requires c = search rules

pub tell_found-requires : goal.tell_found-requires
tell_found-requires c = search rules

pub returns : goal.returns
returns c = distance-told _ _ _ _ _ _ c.distance-answer.ensures (told-distance c.tell_found.ensures)
