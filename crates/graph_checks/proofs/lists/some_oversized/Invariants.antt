-- A search over the magnitudes: none was bad so far.
use Rattle.refusals.specs.Edges.{dropping}
use Rattle.refusals.specs.Request.{oversized}
use Rattle.list_laws.specs.Search.{some}
use lib.Ieee.{nan}
use lib.ListN.{length, get_or}
use Prim.Native.Nat.{◌≤◌}
use mathlib.Core.Bool.{false}
use mathlib.Core.Path.{◌≡◌}
use Rattle.graph_checks.proofs.lists.some_oversized.Given as goal

abbrev pub invariant-loop-i : goal.invariant-loop-i
invariant-loop-i l = (some (λ e. oversized (get_or (dropping l.dropped l.m) e nan)) l.i ≡ false) × (l.i ≤ length l.m)
