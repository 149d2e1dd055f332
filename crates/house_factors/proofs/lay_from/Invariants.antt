-- Each turn stores the factor of one coupling.
use mathlib.Core.Path.{◌≡◌}
use Prim.Native.Nat.{◌≤◌}
use lib.ListN.{length}
use Rattle.list_laws.specs.Front.{over}
use Rattle.house_factors.proofs.Laying.{laid}
use Rattle.house_factors.proofs.lay_from.Given as goal

abbrev pub invariant-loop-e : goal.invariant-loop-e
invariant-loop-e l = (l.e ≤ length l.couplings) × (length l.factors ≡ length l.initial.factors) × (l.factors ≡ over (laid l.couplings l.e) l.initial.factors)
