-- The pairs among the first i candidates are counted.
use Prim.Native.Nat.{◌*◌, ◌≤◌}
use Rattle.strip_pairs.specs.PairSet.{pairs_below}
use Rattle.strip_pairs.specs.PairListing.{Ends}
use Rattle.strip_pairs.proofs.standard.count_pairs.Given as goal

abbrev pub invariant-loop-i : goal.invariant-loop-i
invariant-loop-i l = Ends (pairs_below l.w l.l l.i) l.at × (l.i ≤ 18) × (l.at.pairs ≤ l.i) × (l.at.bytes ≤ 17 * l.i)
