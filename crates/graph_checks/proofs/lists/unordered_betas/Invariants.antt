-- A search over neighbours: each beta before i is less than the next.
use Rattle.list_laws.specs.Search.{some}
use lib.Ieee.{nan, lt}
use lib.ListN.{length, get_or}
use Prim.Native.Nat.{◌+◌, ◌-◌, ◌≤◌}
use mathlib.Core.Bool.{false, not}
use mathlib.Core.Path.{◌≡◌}
use Rattle.graph_checks.proofs.lists.unordered_betas.Given as goal

abbrev pub invariant-loop-i : goal.invariant-loop-i
invariant-loop-i l =
    (some (λ e. not (lt (get_or l.betas e nan) (get_or l.betas (e + 1) nan))) (l.i - 1) ≡ false) × (l.i - 1 ≤ length l.betas - 1)
