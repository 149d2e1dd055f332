use Prim.Native.Nat.{◌-◌}
use Rattle.totals_reuse.proofs.Laws.Settled.{edges-first, settled-more}
use native.Mathlib.Omega.{arith}
use Rattle.totals_reuse.proofs.changed_vertex.Goals as goal

pub loop-t-init : goal.loop-t-init
loop-t-init c = λ u a b. absurd (omega arith)

pub step_may_change-requires : goal.step_may_change-requires
step_may_change-requires c = edges-first _ c.requires.1 (omega arith)

pub returns-then-step_may_change : goal.returns-then-step_may_change
returns-then-step_may_change c = c.loop-t.invariant

pub loop-t-preserved : goal.loop-t-preserved
loop-t-preserved c =
    let l = c.loop-t in
    settled-more c.args.plan.now c.args.bits.now _ _ (l.t - 1) l.invariant (c.step_may_change.ensures c.if-step_may_change.false) _ (omega arith)

pub returns : goal.returns
returns c = λ u a b. c.loop-t.invariant u (omega arith) b
