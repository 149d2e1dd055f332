-- The kept edges of the first i raw ones stand at the fronts of the buffers.
use Rattle.kept_edges.proofs.Keeping.{Keeping}
use Rattle.refusals.specs.Edges.{dropping}
use Rattle.kept_edges.proofs.keep.keep_dropping.Given as goal

abbrev pub invariant-loop-i : goal.invariant-loop-i
invariant-loop-i l = Keeping l.a l.b (dropping l.dropped l.m) l.i l.k l.initial.early l.early l.initial.late l.late l.initial.mag l.mag
