use mathlib.Core.Path.{◌≡◌}
use mathlib.Core.Logic.{inl, inr}
use native.Mathlib.Omega.{arith}
use Rattle.step_runs.proofs.Laws.Patterns.{sparse-none, sparse-more}
use Rattle.step_runs.proofs.runs.run_bit.Goals as goal
use Rattle.step_runs.proofs.runs.run_bit.Goals.{then-b-low+then-b-e, then-b-low+else-b-e, else-b-low}

pub loop-i-init : goal.loop-i-init
loop-i-init c = (omega arith, omega arith, omega arith, sparse-none _ _ _)

pub loop-i-preserved : goal.loop-i-preserved
loop-i-preserved c =
    let before = c.loop-i.invariant.3 in
    elim c.if-b-low.branch [
      | then-b-low+then-b-e w ↦ (omega arith, omega arith, omega arith, rw w.e-is (sparse-more _ (omega arith) before (inr (omega arith))))
      | then-b-low+else-b-e w ↦ (omega arith, omega arith, omega arith, rw w.e-is (sparse-more _ (omega arith) before (inr (omega arith))))
      | else-b-low w ↦ (omega arith, omega arith, omega arith, rw w.e-is (sparse-more _ (omega arith) before (inl (omega arith))))
    ]

pub returns : goal.returns
returns c =
    let e : c.loop-i.i ≡ c.args.n = omega arith in
    record { lower_bound = (omega arith, omega arith); sparse = rw e at c.loop-i.invariant.3 }
