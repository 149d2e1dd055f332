-- A search over the couplings: none was bad so far.
use Rattle.coupling_grid.specs.Grid.{off_grid}
use Rattle.list_laws.specs.Search.{some}
use lib.Ieee.{nan}
use lib.ListN.{length, get_or}
use Prim.Native.Nat.{◌≤◌}
use mathlib.Core.Bool.{false}
use mathlib.Core.Path.{◌≡◌}
use Rattle.house_checks.proofs.couplings.bad_couplings.Given as goal

abbrev pub invariant-loop-x : goal.invariant-loop-x
invariant-loop-x l = (length l.couplings ≡ l.count) × (some (λ e. off_grid (get_or l.couplings e nan)) l.x-index ≡ false) × (l.x-index ≤ length l.couplings)
