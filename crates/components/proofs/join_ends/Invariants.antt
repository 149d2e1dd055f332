-- The roots stay the lowest labels, edge by edge, and each union of two sets is a tree edge's.
use mathlib.Core.Path.{◌≡◌}
use Prim.Native.Nat.{◌≤◌}
use lib.ListN.{length}
use Rattle.list_laws.specs.Count.{count}
use Rattle.forest.specs.Labels.{is_tree}
use Rattle.forest.specs.Lowest.{lowest}
use Rattle.union_find.specs.Forest.{Labelled}
use Rattle.components.proofs.join_ends.Given as goal

abbrev pub invariant-loop-e : goal.invariant-loop-e
invariant-loop-e l =
    (l.trees ≡ count (is_tree l.early l.late) l.e) × (l.trees ≤ l.e) × (l.e ≤ length l.early) × Labelled (length l.initial.p) (lowest l.early l.late l.e) l.p
