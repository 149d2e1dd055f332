-- The pairs of the order are answered two by two.
use Prim.Native.Nat.{◌+◌, ◌-◌}
use lib.ListN.{length}
use Rattle.pair_correlations.proofs.Answering.{Answering}
use Rattle.pair_correlations.proofs.pairs.answer_pairs.Given as goal

abbrev pub invariant-loop-direct : goal.invariant-loop-direct
invariant-loop-direct l =
    Answering l.plan l.us l.vs l.order l.initial.room l.room l.initial.results l.results l.n l.w l.scales l.current l.answered l.directs l.direct l.other

abbrev pub decreases-loop-direct : goal.decreases-loop-direct
decreases-loop-direct l =
    l.directs + length l.order - (l.direct + l.other)
