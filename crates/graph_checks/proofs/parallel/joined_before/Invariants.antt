-- The chain ends where no earlier edge is left with the same later end.
use Rattle.graph_checks.proofs.Chaining.{Searched}
use Rattle.graph_checks.proofs.parallel.joined_before.Given as goal

abbrev pub invariant-loop-k : goal.invariant-loop-k
invariant-loop-k l = Searched l.early l.late l.e l.k

abbrev pub decreases-loop-k : goal.decreases-loop-k
decreases-loop-k l = l.k
