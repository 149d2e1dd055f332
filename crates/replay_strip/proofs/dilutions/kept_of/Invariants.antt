-- The index is below the buffers' length, and the count at most the index.
use Rattle.std.proofs.Common.{◌-◌, ◌≤◌}
use Rattle.replay_strip.proofs.dilutions.kept_of.Given as goal

abbrev pub invariant-loop-i : goal.invariant-loop-i
invariant-loop-i l = (l.i ≤ 4096) × (l.edges ≤ l.i)
