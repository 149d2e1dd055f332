-- The roots stay the lowest labels, edge by edge, so what `union_lower` returns is the tree edge's test, and the free edges so far are counted.
use mathlib.Core.Path.{◌≡◌}
use Prim.Native.Nat.{◌≤◌}
use lib.ListN.{length}
use Rattle.forest.specs.Lowest.{lowest}
use Rattle.forest.specs.FreeEdges.{free_before, bit_of}
use Rattle.union_find.specs.Forest.{Labelled}
use Rattle.union_find.proofs.Laws.Filled.{Filled}
use Rattle.forest.proofs.number_free_edges.Given as goal

abbrev pub invariant-loop-e : goal.invariant-loop-e
invariant-loop-e l =
    Labelled l.n (lowest l.early l.late l.e) l.p × Filled 0 (bit_of l.early l.late) (length l.early) l.e l.bits × (l.free ≡ free_before l.early l.late l.e) × (l.e ≤ length l.early)
