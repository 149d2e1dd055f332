-- The climb keeps every root and the root of where it stands; it ends since each turn stands less deep.
use Rattle.union_find.specs.Forest.{links}
use Rattle.union_find.proofs.Laws.Halve.{Climbing}
use Rattle.union_find.proofs.Laws.Climb.{depth}
use Rattle.union_find.proofs.find.Given as goal

abbrev pub invariant-loop-x : goal.invariant-loop-x
invariant-loop-x l = Climbing l.initial.p l.vertex l.p l.x

abbrev pub decreases-loop-x : goal.decreases-loop-x
decreases-loop-x l = depth l.p (links 0 l.p) l.x
