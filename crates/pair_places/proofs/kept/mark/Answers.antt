-- By cases of whether the vertex is kept.
use Rattle.pair_places.proofs.Marks.{mark_set, mark_left}
use Rattle.pair_places.proofs.kept.mark.Goals as goal

pub returns-then-kept : goal.returns-then-kept
returns-then-kept c = rw c.if-kept.true (mark_set _ _ c.requires)

pub returns-else-kept : goal.returns-else-kept
returns-else-kept c = rw c.if-kept.false (mark_left _ _)
