-- By cases on whether it is due.
use Rattle.step_tables.proofs.Laws.Constants.{one-is}
use Rattle.pair_sums.specs.Stored.{most_if}
use Rattle.pair_sums.proofs.stored.half_stored.Goals as goal

pub returns-then-taken : goal.returns-then-taken
unfolding most_if
returns-then-taken c = rw c.if-taken.true c.half_largest_at.ensures

pub returns : goal.returns
unfolding most_if
returns c = rw c.if-taken.false one-is
