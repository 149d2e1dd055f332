-- The list is filled from the front, each vertex with itself.
use lib.ListN.{length}
use Rattle.union_find.proofs.Laws.Filled.{Filled}
use Rattle.union_find.proofs.start.Given as goal

abbrev pub invariant-loop-i : goal.invariant-loop-i
invariant-loop-i l = Filled 0 (λ v. v) (length l.initial.p) l.i l.p
