use mathlib.Core.Path.{◌≡◌, sym, ◌∙◌}
use native.Mathlib.Nat.{max-eq_left, max-eq_right}
use native.Mathlib.Omega.{arith}
use Rattle.list_laws.proofs.Laws.Most.{most-more, most_zero}
use Rattle.plan_steps.specs.Layout.{near_count}
use Rattle.error_bound.proofs.near.most_planned.Goals as goal
use Rattle.error_bound.proofs.near.most_planned.Goals.{then-near-count, else-near-count}

pub loop-t-init : goal.loop-t-init
loop-t-init c = (sym (most_zero _), omega arith)

pub loop-t-preserved : goal.loop-t-preserved
loop-t-preserved c =
    let l = c.loop-t in
    let e = c.near_count-count.ensures in
    elim c.if-near-count.branch [
      | then-near-count w ↦ (most-more (near_count c.args.plan.now) l.t l.near _ l.invariant.0 (w.near-is ∙ e ∙ sym (max-eq_right (omega arith))), omega arith)
      | else-near-count w ↦ (most-more (near_count c.args.plan.now) l.t l.near _ l.invariant.0 (w.near-is ∙ sym (max-eq_left (omega arith))), omega arith)
    ]

pub returns : goal.returns
returns c = let e : c.loop-t.t ≡ c.args.n = omega arith in rw (← e) c.loop-t.invariant.0
