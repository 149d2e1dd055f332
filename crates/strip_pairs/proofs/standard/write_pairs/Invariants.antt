-- The pairs among the first i candidates stand at the fronts of the buffers.
use Prim.Native.Nat.{◌≤◌}
use Rattle.strip_pairs.specs.PairSet.{pairs_below}
use Rattle.strip_pairs.specs.PairListing.{Ends, PairsWritten}
use Rattle.strip_pairs.proofs.standard.write_pairs.Given as goal

abbrev pub invariant-loop-i : goal.invariant-loop-i
invariant-loop-i l = Ends (pairs_below l.w l.l l.i) l.at × PairsWritten (pairs_below l.w l.l l.i) l.initial.us l.us l.initial.vs l.vs l.initial.labels l.labels × (l.i ≤ 18)
