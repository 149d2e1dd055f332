-- `sweep_up` meets its contract. Invariant: the edges below i are swept.
use Prim.Native.Nat.{◌≤◌}
use lib.ListN.{length}
use Rattle.distance.specs.Lengths.{EdgesRelaxed}
use Rattle.distance.proofs.sweep_up.Given as goal

abbrev pub invariant-loop-i : goal.invariant-loop-i
invariant-loop-i l = EdgesRelaxed l.early l.late 0 l.i l.initial.d l.more l.d × (l.i ≤ length l.early)
