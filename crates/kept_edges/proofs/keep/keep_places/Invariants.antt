-- The places of the kept ones of the first i raw edges stand at the front of the buffer.
use Rattle.kept_edges.proofs.Placing.{Placing}
use Rattle.kept_edges.proofs.keep.keep_places.Given as goal

abbrev pub invariant-loop-place : goal.invariant-loop-place
invariant-loop-place l = Placing l.m l.place l.k l.initial.raw l.raw
