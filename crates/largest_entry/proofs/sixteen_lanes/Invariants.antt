-- Each lane has the largest of its first t entries; joined, they have the largest of all.
use Prim.Native.Nat.{◌+◌, ◌*◌, ◌≤◌}
use Rattle.largest_entry.proofs.LargestIteration.{LanesPassed}
use Rattle.largest_entry.proofs.sixteen_lanes.Given as goal

abbrev pub invariant-loop-t : goal.invariant-loop-t
invariant-loop-t l =
    (l.t ≤ l.n) × LanesPassed l.v (λ s. l.at + 16 * s) l.t l.a.a l.a.b l.a.c l.a.d × LanesPassed l.v (λ s. l.at + 16 * s + 4) l.t l.b.a l.b.b l.b.c l.b.d
    × LanesPassed l.v (λ s. l.at + 16 * s + 8) l.t l.c.a l.c.b l.c.c l.c.d × LanesPassed l.v (λ s. l.at + 16 * s + 12) l.t l.d.a l.d.b l.d.c l.d.d
