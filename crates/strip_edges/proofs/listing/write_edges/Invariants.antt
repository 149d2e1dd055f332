-- The edges of the first v sites stand at the fronts of the buffers.
use Prim.Native.Nat.{◌-◌, ◌*◌, ◌≤◌}
use Rattle.strip_edges.specs.Listing.{Written}
use Rattle.strip_bonds.specs.Edges.{edges_below}
use Rattle.strip_edges.proofs.listing.write_edges.Given as goal

abbrev pub invariant-loop-v : goal.invariant-loop-v
invariant-loop-v l = Written (edges_below l.s l.v) l.k l.initial.early l.early l.initial.late l.late l.initial.mag l.mag × (l.v ≤ l.s.w * l.s.l)
