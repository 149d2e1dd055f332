-- The edges of the first v sites are counted.
use mathlib.Core.Path.{◌≡◌}
use Prim.Native.Nat.{◌-◌, ◌*◌, ◌≤◌}
use lib.ListN.{length}
use Rattle.strip_bonds.specs.Edges.{edges_below}
use Rattle.strip_edges.proofs.listing.count_edges.Given as goal

abbrev pub invariant-loop-v : goal.invariant-loop-v
invariant-loop-v l = (l.k ≡ length (edges_below l.s l.v)) × (l.v ≤ l.s.w * l.s.l) × (l.k ≤ 5 * l.v)
