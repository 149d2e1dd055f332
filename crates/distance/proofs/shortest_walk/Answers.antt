-- `shortest_walk` meets its contract: `settle` leaves the distances from u.
use native.Mathlib.Omega.{arith}
use Rattle.distance.proofs.Distances.{only-ready, far_not_joined, known-length}
use Rattle.distance.proofs.shortest_walk.Goals as goal

pub settle-requires : goal.settle-requires
settle-requires c =
    let s = c in
    only-ready 1024 _ s.requires.2 _ _ (omega arith) s.requires.0 s.requires.1

pub returns-then-r-eq-VERTICES : goal.returns-then-r-eq-VERTICES
returns-then-r-eq-VERTICES c =
    let s = c in
    let z = c.settle.ensures in
    far_not_joined 1024 _ (omega arith) s.requires.2 s.requires.1 z.lowered z.settled _ c.if-r-eq-VERTICES.true

pub returns : goal.returns
returns c =
    let s = c in
    let z = c.settle.ensures in
    known-length 1024 _ (omega arith) s.requires.2 s.requires.1 z.lowered z.settled _ s.requires.3 c.if-r-eq-VERTICES.false
