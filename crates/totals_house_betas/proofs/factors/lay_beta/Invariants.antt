-- The factors of the edges so far.
use mathlib.Core.Path.{◌≡◌}
use Prim.Native.Nat.{◌≤◌}
use lib.ListN.{length}
use Rattle.totals_house_betas.proofs.Laws.Filling.{laid}
use Rattle.totals_house_betas.proofs.factors.lay_beta.Given as goal

abbrev pub invariant-loop-e : goal.invariant-loop-e
invariant-loop-e l = (l.e ≤ length l.mag) × (l.factors ≡ laid l.initial.factors l.beta l.mag l.e)
