-- A search over the couplings of one beta: none was off the grid so far.
use Rattle.coupling_grid.specs.Grid.{off_grid}
use Rattle.list_laws.specs.Search.{some}
use lib.Ieee.{nan, binary64, mul}
use lib.ListN.{length, get_or}
use Prim.Native.Nat.{◌≤◌}
use mathlib.Core.Bool.{false}
use mathlib.Core.Path.{◌≡◌}
use Rattle.house_checks.proofs.couplings.off_products.Given as goal

abbrev pub invariant-loop-m : goal.invariant-loop-m
invariant-loop-m l = (some (λ i. off_grid (mul binary64 l.beta (get_or l.mag i nan))) l.m-index ≡ false) × (l.m-index ≤ length l.mag)
