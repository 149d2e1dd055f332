-- The count of words bounds the loop.
use Rattle.std.proofs.Common.{◌-◌, ◌≤◌}
use Rattle.replay_rng.proofs.replay_words.Given as goal

abbrev pub invariant-loop-i : goal.invariant-loop-i
invariant-loop-i l = l.i ≤ 64
