-- The chains grow with the edges, and none joined the same vertices as one before it.
use Rattle.graph_checks.proofs.Chaining.{Finding}
use lib.ListN.{length}
use Rattle.graph_checks.proofs.parallel.find_twice.Given as goal

abbrev pub invariant-loop-e : goal.invariant-loop-e
invariant-loop-e l = Finding l.early l.late l.heads l.next (length l.initial.next) (length l.initial.heads) l.e
