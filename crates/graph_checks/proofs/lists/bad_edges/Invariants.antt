-- A search over the edges: none was bad so far.
use Rattle.refusals.specs.Request.{bad_ends}
use Rattle.list_laws.specs.Search.{some}
use lib.ListN.{length}
use Prim.Native.Nat.{◌≤◌}
use mathlib.Core.Bool.{false}
use mathlib.Core.Path.{◌≡◌}
use Rattle.graph_checks.proofs.lists.bad_edges.Given as goal

abbrev pub invariant-loop-i : goal.invariant-loop-i
invariant-loop-i l = (some (bad_ends l.n l.a l.b) l.i ≡ false) × (l.i ≤ length l.a)
