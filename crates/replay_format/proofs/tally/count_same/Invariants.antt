-- The count is at most the bytes passed, of which each record has some.
use Rattle.std.proofs.Common.{◌≤◌}
use Rattle.replay_format.proofs.tally.count_same.Given as goal

abbrev pub invariant-loop-at : goal.invariant-loop-at
invariant-loop-at g l = l.count ≤ l.at
