-- The roots stay the labels, edge by edge and then through every `find`, which answers them.
use Prim.Native.Nat.{◌≤◌}
use lib.ListN.{length}
use Rattle.forest.specs.Labels.{labels}
use Rattle.union_find.specs.Forest.{Labelled}
use Rattle.union_find.proofs.Laws.Filled.{Filled}
use Rattle.components.proofs.name_components.Given as goal

abbrev pub invariant-loop-e : goal.invariant-loop-e
invariant-loop-e l = Labelled l.n (labels l.early l.late l.e) l.p × (l.e ≤ length l.early)

abbrev pub invariant-loop-v : goal.invariant-loop-v
invariant-loop-v l = Labelled l.n (labels l.early l.late (length l.early)) l.p × Filled 0 (labels l.early l.late (length l.early)) l.n l.v l.out
