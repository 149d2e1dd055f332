-- The calls left are those of the range.
use Rattle.std.proofs.Common.{◌≡◌, ◌+◌}
use Rattle.replay_couplings.proofs.call.replay_all.Given as goal

abbrev pub invariant-loop-call : goal.invariant-loop-call
invariant-loop-call l = l.progress.left + l._call ≡ l._call-end
