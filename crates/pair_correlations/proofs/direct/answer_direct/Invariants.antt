-- Two pairs a turn.
use Prim.Native.Nat.{◌-◌, ◌≤◌}
use Rattle.pair_correlations.specs.Direct.{DirectsAnswered}
use Rattle.pair_correlations.proofs.direct.answer_direct.Given as goal

abbrev pub invariant-loop-k : goal.invariant-loop-k
invariant-loop-k l = (l.from ≤ l.k) × (l.k ≤ l.to) × DirectsAnswered l.room l.us l.vs l.order l.w l.at l.from l.k l.initial.results l.results

abbrev pub decreases-loop-k : goal.decreases-loop-k
decreases-loop-k l = l.to - l.k
