-- A search for a place out of order, once the count is known to be a double.
use mathlib.Core.Path.{◌≡◌}
use mathlib.Core.Bool.{false}
use Prim.Native.Nat.{◌≤◌}
use lib.ListN.{length}
use Rattle.list_laws.specs.Search.{some}
use Rattle.estimates.proofs.Sums.{disordered}
use Rattle.estimates.proofs.order.bad_sums.Given as goal

abbrev pub invariant-loop-i : goal.invariant-loop-i
invariant-loop-i l = (l.i ≤ length l.squares) × (some (disordered l.count l.squares l.fourths) l.i ≡ false)
