-- The job is planned, its pairs are ordered and its factors laid; then the planned job is run.
use mathlib.Core.Path.{refl, sym, ◌∙◌, subst}
use Prim.Native.Nat.{ℕ}
use native.Mathlib.Omega.{arith}
use lib.Seq.{length-take-le}
use Rattle.vertex_step.specs.Ready.{Ready}
use Rattle.plan_steps.specs.Layout.{Holds}
use Rattle.pair_correlations.proofs.Laws.Planning.{end_fits, ready, serves}
use Rattle.job_run.proofs.Finishing.{factors_fit, finished}
use Rattle.job_run.proofs.job.answer_job.Goals as goal

pub make_plan-layout-requires : goal.make_plan-layout-requires
make_plan-layout-requires c =
    let p = c.requires.job in
    let few = p.edges.few in
    (p.edges, p.few-edges, p.pairs, omega arith, p.few-near)

pub slice_bounds-orders-end : goal.slice_bounds-orders-end
slice_bounds-orders-end c = omega (arith, c.requires.job.few-pairs)

pub slice_bounds-order-end : goal.slice_bounds-order-end
slice_bounds-order-end c = sym (length-take-le _ _ (omega (arith, c.requires.job.few-pairs)))

pub order_pairs-requires : goal.order_pairs-requires
order_pairs-requires c =
    let p = c.requires.job in
    (p.pairs, p.edges.few, length-take-le _ _ (omega (arith, p.few-pairs)))

pub slice_bounds-room-end : goal.slice_bounds-room-end
slice_bounds-room-end c = end_fits _ _ _ _ _ _ _ _ _ _ _ _ _ c.requires.job c.make_plan-layout.ensures

pub slice_bounds-room-end-2 : goal.slice_bounds-room-end-2
slice_bounds-room-end-2 c =
    let e = end_fits _ _ _ _ _ _ _ _ _ _ _ _ _ c.requires.job c.make_plan-layout.ensures in
    sym (length-take-le c.make_plan-layout.result.room c.args.work.now e)

pub lay_factors-requires : goal.lay_factors-requires
lay_factors-requires c =
    let p = c.requires in
    let g = c.make_plan-layout.ensures in
    let e = end_fits _ _ _ _ _ _ _ _ _ _ _ _ _ p.job g in
    let f = factors_fit _ _ _ _ _ _ _ _ _ _ _ _ _ _ _ p g in
    let t = length-take-le c.make_plan-layout.result.room c.args.work.now e in
    omega arith

pub run-requires : goal.run-requires
run-requires c =
    let s = c in
    let p = s.requires in
    let m = c.make_plan-layout in
    let g = m.ensures in
    let few = p.job.edges.few in
    let holds : Holds m.new.plan s.args.n = omega (arith, m.auto.plan) in
    let e = end_fits _ _ _ _ _ _ _ _ _ _ _ _ _ p.job g in
    let l = c.lay_factors.auto.room ∙ length-take-le m.result.room s.args.work.now e in (
      p.job.some,
      subst (λ (k : ℕ). Ready m.new.plan k s.args.n s.args.w m.result.scales) (sym l)
          (ready _ _ _ _ _ _ _ _ _ _ _ _ _ p.job g holds),
      serves _ _ _ _ _ _ _ _ _ _ _ _ _ p.job g s.args.less refl,
      c.order_pairs.ensures,
      p.fitting,
    )

pub returns : goal.returns
returns c =
    let s = c in
    let m = c.make_plan-layout in
    finished _ _ _ _ _ _ _ _ _ _ _ _ _ _ _ s.requires m.ensures s.args.work.now _ _ _ _ _ refl c.lay_factors.ensures c.run.ensures.room_after c.run.ensures.value
