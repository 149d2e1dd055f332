-- The job is planned, and what was stored is cleared where some Z is not finite and above zero.
use mathlib.Core.Path.{refl, sym, ap, ◌∙◌}
use Prim.Native.Nat.{◌≤◌}
use native.Mathlib.Omega.{arith}
use lib.ListN.{length}
use lib.Seq.{length-take-le}
use Rattle.plan_steps.specs.Layout.{Holds}
use Rattle.job_run.specs.Zeros.{zeros}
use Rattle.totals_call.specs.Jobs.{job_enumerated}
use Rattle.totals_call.specs.Finished.{stepping}
use Rattle.totals_call.proofs.Laws.Signing.{as_long, numbered_plan}
use Rattle.totals_call.proofs.Laws.Staging.{enough-factors, staged, enumerates, room_fits, finished, cleared-stored}
use Rattle.entry_exhaustive_c.proofs.job.store_job.Goals as goal

-- ---- the lists that are made here are long enough
pub slice_bounds-orders-end : goal.slice_bounds-orders-end
slice_bounds-orders-end c = omega (arith, c.requires.0.job.few-pairs)

pub slice_bounds-order-end : goal.slice_bounds-order-end
slice_bounds-order-end c = sym (length-take-le _ _ (omega (arith, c.requires.0.job.few-pairs)))

pub slice_bounds-signs-end : goal.slice_bounds-signs-end
slice_bounds-signs-end c = omega (arith, c.requires.0.job.few-edges)

pub slice_bounds-stored_correlations-end-2 : goal.slice_bounds-stored_correlations-end-2
slice_bounds-stored_correlations-end-2 c = sym (length-take-le _ _ (omega (arith, c.requires.0.job.few-edges)))

pub slice_bounds-c-end : goal.slice_bounds-c-end
slice_bounds-c-end c = omega (arith, c.requires.0.job.few-pairs)

pub slice_bounds-stored_correlations-end-3 : goal.slice_bounds-stored_correlations-end-3
slice_bounds-stored_correlations-end-3 c = sym (length-take-le _ _ (omega (arith, c.requires.0.job.few-pairs)))

-- ---- what is called
pub make_plan-layout-requires : goal.make_plan-layout-requires
make_plan-layout-requires c =
    let p = c.requires.0.job in
    let few = p.edges.few in
    (p.edges, p.few-edges, p.pairs, omega arith, p.few-near)

pub order_pairs-requires : goal.order_pairs-requires
order_pairs-requires c =
    let p = c.requires.0.job in
    (p.pairs, p.edges.few, length-take-le _ _ (omega (arith, p.few-pairs)))

pub slice_bounds-room-end : goal.slice_bounds-room-end
slice_bounds-room-end c = (let it : c.make_plan-layout.result.room ≤ length c.args.work.now = room_fits c.requires.0 c.make_plan-layout.ensures in it)

pub slice_bounds-room-end-2 : goal.slice_bounds-room-end-2
slice_bounds-room-end-2 c = sym (length-take-le _ c.args.work.now ((let it : c.make_plan-layout.result.room ≤ length c.args.work.now = room_fits c.requires.0 c.make_plan-layout.ensures in it)))

pub stored_correlations-sound-requires : goal.stored_correlations-sound-requires
stored_correlations-sound-requires c =
    let s = c in
    let p = s.requires in
    let m = c.make_plan-layout in
    let o = c.order_pairs in
    let few = p.0.job.edges.few in
    let holds : Holds m.new.plan s.args.n = omega (arith, m.auto.plan) in
    let l = p.0.job.few-edges in
    let k = p.0.job.few-pairs in
    let long = as_long s.args.early.now s.args.late.now s.args.bits.now p.3 in (
      staged p.0 m.ensures o.new.order _ _ _ s.args.elementwise s.args.less refl holds o.ensures long (length-take-le _ s.args.work.now ((let it : c.make_plan-layout.result.room ≤ length c.args.work.now = room_fits c.requires.0 c.make_plan-layout.ensures in it))) (length-take-le _ _ (omega (arith, k))),
      enough-factors p.0 _ long,
      enumerates s.args.early.now s.args.late.now s.args.bits.now _ s.args.free p.3 (length-take-le _ _ (omega (arith, l))) p.1 p.2,
      p.2,
      p.4,
    )

pub shape_of-stored : goal.shape_of-stored
shape_of-stored c = c.clear_unsound.auto.list ∙ c.stored_correlations-sound.auto.stored

pub returns : goal.returns
returns c =
    let s = c in
    let a = s.args in
    let p = s.requires in
    let m = c.make_plan-layout in
    let t = c.stored_correlations-sound in
    let zero = c.clear in
    let x = c.clear_unsound in
    let of = numbered_plan _ m.new.plan a.early.now a.late.now a.us.now a.vs.now a.n a.w _ _ _ _ m.ensures p.0.job.some a.factors.now a.elementwise a.less a.betas a.bits.now p.3 in
    let J = job_enumerated a.n a.w a.early.now a.late.now a.factors.now (stepping a.elementwise) in
    let said = t.ensures J of in
    let g = cleared-stored J a.us.now a.vs.now a.betas t.result t.new.stored x.new.list a.free _ p.1 said.0 x.ensures said.1 (t.auto.stored ∙ p.4) in
    finished p.0 m.ensures _ _ _ _ t.result _ _ a.work.now zero.new.list refl (zero.ensures ∙ ap zeros t.auto.room) g g
