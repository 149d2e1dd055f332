-- The largest of the first i entries, one entry more an iteration.
use mathlib.Core.Path.{◌≡◌}
use Prim.Native.Nat.{◌+◌, ◌≤◌}
use lib.Ieee.{nan}
use lib.ListN.{get_or}
use Rattle.largest_entry.specs.Top.{top}
use Rattle.largest_entry.proofs.one_lane.Given as goal

abbrev pub invariant-loop-i : goal.invariant-loop-i
invariant-loop-i l = (l.i ≤ l.n) × (l.a ≡ top (λ j. get_or l.v (l.at + j) nan) l.i)
