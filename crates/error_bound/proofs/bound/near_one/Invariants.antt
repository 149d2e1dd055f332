-- A search over the factors: none was outside so far.
use mathlib.Core.Bool.{false, not}
use mathlib.Core.Path.{◌≡◌}
use Prim.Native.Nat.{◌≤◌}
use lib.Ieee.{nan}
use lib.ListN.{length, get_or}
use Rattle.list_laws.specs.Search.{some}
use Rattle.error_bound.specs.Bound.{inside_powers}
use Rattle.error_bound.proofs.bound.near_one.Given as goal

abbrev pub invariant-loop-x : goal.invariant-loop-x
invariant-loop-x l = (some (λ e. not (inside_powers l.bits (get_or l.factors e nan))) l.x-index ≡ false) × (l.x-index ≤ length l.factors)
