-- The job is planned, and what was stored is cleared where some Z is not finite and above zero.
use mathlib.Core.Path.{refl, sym, ap, ◌∙◌}
use Prim.Native.Nat.{◌*◌, ◌≤◌}
use native.Mathlib.Omega.{arith}
use lib.ListN.{length}
use lib.Seq.{length-take-le}
use Rattle.plan_steps.specs.Layout.{Holds}
use Rattle.house_factors.specs.Factors.{paired_factors}
use Rattle.refusals.specs.Couplings.{all_couplings}
use Rattle.job_run.specs.Zeros.{zeros}
use Rattle.totals_call.specs.Jobs.{job_enumerated}
use Rattle.totals_call.specs.Finished.{stepping}
use Rattle.totals_call.proofs.Laws.Signing.{as_long}
use Rattle.totals_call.proofs.Laws.Staging.{staged, enumerates, room_fits, finished, cleared-stored}
use Rattle.totals_house_betas.proofs.Laws.Planning.{of-one-beta, numbers_plan}
use Rattle.totals_house_stored.proofs.stored.store_house_job.Goals as goal

-- ---- the lists that are made here are long enough
pub slice_bounds-orders-end : goal.slice_bounds-orders-end
slice_bounds-orders-end c = omega (arith, c.requires.0.job.few-pairs)

pub slice_bounds-order-end : goal.slice_bounds-order-end
slice_bounds-order-end c = sym (length-take-le _ _ (omega (arith, c.requires.0.job.few-pairs)))

pub overflow_mul-laid : goal.overflow_mul-laid
overflow_mul-laid c = omega (arith, c.requires.0.job.few-edges)

pub slice_bounds-factors-end : goal.slice_bounds-factors-end
slice_bounds-factors-end c = omega (arith, c.requires.0.job.few-edges)

pub slice_bounds-store_betas-end-2 : goal.slice_bounds-store_betas-end-2
slice_bounds-store_betas-end-2 c = sym (length-take-le _ _ (omega (arith, c.requires.0.job.few-edges)))

pub slice_bounds-signs-end : goal.slice_bounds-signs-end
slice_bounds-signs-end c = omega (arith, c.requires.0.job.few-edges)

pub slice_bounds-store_betas-end-3 : goal.slice_bounds-store_betas-end-3
slice_bounds-store_betas-end-3 c = sym (length-take-le _ _ (omega (arith, c.requires.0.job.few-edges)))

pub slice_bounds-c-end : goal.slice_bounds-c-end
slice_bounds-c-end c = omega (arith, c.requires.0.job.few-pairs)

pub slice_bounds-store_betas-end-4 : goal.slice_bounds-store_betas-end-4
slice_bounds-store_betas-end-4 c = sym (length-take-le _ _ (omega (arith, c.requires.0.job.few-pairs)))

-- ---- what is called
pub make_plan-layout-requires : goal.make_plan-layout-requires
make_plan-layout-requires c =
    let p = c.requires.0.job in
    let few = p.edges.few in
    (p.edges, p.few-edges, p.pairs, omega arith, p.few-near)

pub order_pairs-requires : goal.order_pairs-requires
order_pairs-requires c =
    let p = c.requires.0.job in
    (p.pairs, p.edges.few, length-take-le _ _ (omega (arith, p.few-pairs)))

pub slice_bounds-room-end : goal.slice_bounds-room-end
slice_bounds-room-end c = (let it : c.make_plan-layout.result.room ≤ length c.args.work.now = room_fits (of-one-beta c.requires.0) c.make_plan-layout.ensures in it)

pub slice_bounds-room-end-2 : goal.slice_bounds-room-end-2
slice_bounds-room-end-2 c = sym (length-take-le _ c.args.work.now ((let it : c.make_plan-layout.result.room ≤ length c.args.work.now = room_fits (of-one-beta c.requires.0) c.make_plan-layout.ensures in it)))

pub store_betas-sound-requires : goal.store_betas-sound-requires
store_betas-sound-requires c =
    let a = c.args in
    let p = c.requires in
    let m = c.make_plan-layout in
    let o = c.order_pairs in
    let few = p.0.job.edges.few in
    let holds : Holds m.new.plan a.n = omega (arith, m.auto.plan) in
    let l = p.0.job.few-edges in
    let k = p.0.job.few-pairs in
    let long = as_long a.early.now a.late.now a.bits.now p.3 in (
      staged (of-one-beta p.0) m.ensures o.new.order _ _ _ a.elementwise a.less refl holds o.ensures long (length-take-le _ a.work.now ((let it : c.make_plan-layout.result.room ≤ length c.args.work.now = room_fits (of-one-beta c.requires.0) c.make_plan-layout.ensures in it))) (length-take-le _ _ (omega (arith, k))),
      refl,
      enumerates a.early.now a.late.now a.bits.now _ a.free p.3 (length-take-le _ _ (omega (arith, l))) p.1 (omega (arith, p.2)),
      p.2,
      p.0.matched ∙ sym long,
      omega (arith, l, p.0.matched),
      length-take-le _ _ (omega (arith, l)) ∙ ap (λ i. 2 * i) (sym p.0.matched),
      p.0.on_grid,
      p.0.few-betas,
      k,
      p.4,
    )

pub shape_of-stored : goal.shape_of-stored
shape_of-stored c = c.clear_unsound.auto.list ∙ c.store_betas-sound.auto.stored

pub returns : goal.returns
returns c =
    let a = c.args in
    let p = c.requires in
    let m = c.make_plan-layout in
    let t = c.store_betas-sound in
    let zero = c.clear in
    let x = c.clear_unsound in
    let of = numbers_plan _ m.new.plan a.early.now a.late.now a.us.now a.vs.now a.n a.w _ _ _ _ m.ensures p.0.job.some a.mag.now a.betas.now p.0.matched a.elementwise a.less a.bits.now p.3 in
    let J = job_enumerated a.n a.w a.early.now a.late.now (paired_factors (all_couplings a.betas.now a.mag.now)) (stepping a.elementwise) in
    let said = t.ensures J of in
    let g = cleared-stored J a.us.now a.vs.now (length a.betas.now) t.result t.new.stored x.new.list a.free _ p.1 said.0 x.ensures said.1 (t.auto.stored ∙ p.4) in
    finished (of-one-beta p.0) m.ensures _ _ _ _ t.result _ _ a.work.now zero.new.list refl (zero.ensures ∙ ap zeros t.auto.room) g g
