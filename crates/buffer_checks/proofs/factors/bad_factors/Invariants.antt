-- A search over the factors: none was bad so far.
use Rattle.refusals.specs.Request.{passes}
use Rattle.list_laws.specs.Search.{some}
use lib.Ieee.{nan}
use lib.ListN.{length, get_or}
use Prim.Native.Nat.{◌≤◌}
use mathlib.Core.Bool.{false, not}
use mathlib.Core.Path.{◌≡◌}
use Rattle.buffer_checks.proofs.factors.bad_factors.Given as goal

abbrev pub invariant-loop-x : goal.invariant-loop-x
invariant-loop-x l = (length l.factors ≡ l.count) × (some (λ e. not (passes (get_or l.factors e nan))) l.x-index ≡ false) × (l.x-index ≤ length l.factors)
