use mathlib.Core.Path.{refl}
use native.Mathlib.Omega.{arith}
use lib.ListN.{length-set}
use Rattle.plan_steps.proofs.Entering.{cleared_iteration}
use Rattle.plan_steps.proofs.edges.clear_rows.Goals as goal

pub loop-t-init : goal.loop-t-init
loop-t-init c = (omega arith, refl, λ u b. absurd (omega arith))

pub bounds-plan-t-in-loop-t : goal.bounds-plan-t-in-loop-t
bounds-plan-t-in-loop-t c = simp length-set (omega arith)

pub loop-t-preserved : goal.loop-t-preserved
loop-t-preserved c =
    let at = c in
    (omega arith, simp length-set at.loop-t.invariant.1, cleared_iteration at.loop-t.plan at.loop-t.t (omega arith) at.loop-t.invariant.2)

pub shape_of-plan : goal.shape_of-plan
shape_of-plan c = c.loop-t.invariant.1

pub returns : goal.returns
returns c = λ t b. c.loop-t.invariant.2 t (omega arith)
