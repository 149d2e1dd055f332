-- The number of records bounds the loop, and the count is at most the number passed.
use Rattle.std.proofs.Common.{◌-◌, ◌/◌, ◌≤◌, length}
use Rattle.replay_rng.proofs.count_same.Given as goal

abbrev pub invariant-loop-i : goal.invariant-loop-i
invariant-loop-i l = (l.i ≤ length l.list / 664) × (l.count ≤ l.i)
