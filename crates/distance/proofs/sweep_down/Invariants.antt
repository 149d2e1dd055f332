-- `sweep_down` meets its contract. Invariant: the edges from i on are swept.
use Prim.Native.Nat.{◌≤◌}
use lib.ListN.{length}
use Rattle.distance.specs.Lengths.{EdgesRelaxed}
use Rattle.distance.proofs.sweep_down.Given as goal

abbrev pub invariant-loop-i : goal.invariant-loop-i
invariant-loop-i l = EdgesRelaxed l.early l.late l.i (length l.early) l.initial.d l.more l.d × (l.i ≤ length l.early)
