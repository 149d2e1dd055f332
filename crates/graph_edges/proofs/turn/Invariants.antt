-- The edges before e are turned, the others as they were.
use Rattle.graph_edges.proofs.Turning.{Turning}
use Rattle.graph_edges.proofs.turn.Given as goal

abbrev pub invariant-loop-e : goal.invariant-loop-e
invariant-loop-e l = Turning l.n l.edges l.initial.early l.early l.initial.late l.late l.e
