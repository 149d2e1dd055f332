-- The words so far are of the roots.
use Prim.Native.Nat.{◌*◌}
use Rattle.forest.specs.Lowest.{bits}
use Rattle.components.specs.Marks.{is_root}
use Rattle.union_find.proofs.Laws.Filled.{Filled}
use Rattle.components.proofs.marks.mark_roots.Given as goal

abbrev pub invariant-loop-k : goal.invariant-loop-k
invariant-loop-k l = Filled 0 (λ j. bits (is_root l.p) (64 * j) 64) 16 l.k l.marks
