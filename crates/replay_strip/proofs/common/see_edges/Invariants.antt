-- The index is below the buffers' length.
use Rattle.std.proofs.Common.{◌-◌, ◌≤◌}
use Rattle.replay_strip.proofs.common.see_edges.Given as goal

abbrev pub invariant-loop-i : goal.invariant-loop-i
invariant-loop-i l = l.i ≤ 4096
