-- The job is planned, and what was added up is cleared where some Z is not finite and above zero.
use mathlib.Core.Path.{refl, sym, ap, ◌∙◌}
use Prim.Native.Nat.{◌*◌, ◌≤◌}
use native.Mathlib.Omega.{arith}
use lib.ListN.{length}
use lib.Seq.{length-take-le}
use Rattle.plan_steps.specs.Layout.{Holds}
use Rattle.house_factors.specs.Factors.{paired_factors}
use Rattle.refusals.specs.Couplings.{all_couplings}
use Rattle.job_run.specs.Zeros.{zeros}
use Rattle.totals_call.specs.Jobs.{job_in}
use Rattle.totals_call.specs.Finished.{stepping}
use Rattle.totals_call.proofs.Laws.Staging.{staged, summable, room_fits, finished, cleared-answers}
use Rattle.totals_house_betas.proofs.Laws.Planning.{of-one-beta, chunks_plan}
use Rattle.totals_house.proofs.totals.total_house_job.Goals as goal

-- ---- the lists that are made here are long enough
pub slice_bounds-orders-end : goal.slice_bounds-orders-end
slice_bounds-orders-end c = omega (arith, c.requires.0.job.few-pairs)

pub slice_bounds-order-end : goal.slice_bounds-order-end
slice_bounds-order-end c = sym (length-take-le _ _ (omega (arith, c.requires.0.job.few-pairs)))

pub overflow_mul-laid : goal.overflow_mul-laid
overflow_mul-laid c = omega (arith, c.requires.0.job.few-edges)

pub slice_bounds-factors-end : goal.slice_bounds-factors-end
slice_bounds-factors-end c = omega (arith, c.requires.0.job.few-edges)

pub slice_bounds-total_betas-end-2 : goal.slice_bounds-total_betas-end-2
slice_bounds-total_betas-end-2 c = sym (length-take-le _ _ (omega (arith, c.requires.0.job.few-edges)))

pub slice_bounds-signs-end : goal.slice_bounds-signs-end
slice_bounds-signs-end c = omega (arith, c.requires.0.job.few-edges)

pub slice_bounds-total_betas-end-3 : goal.slice_bounds-total_betas-end-3
slice_bounds-total_betas-end-3 c = sym (length-take-le _ _ (omega (arith, c.requires.0.job.few-edges)))

pub slice_bounds-c-end : goal.slice_bounds-c-end
slice_bounds-c-end c = omega (arith, c.requires.0.job.few-pairs)

pub slice_bounds-total_betas-end-4 : goal.slice_bounds-total_betas-end-4
slice_bounds-total_betas-end-4 c = sym (length-take-le _ _ (omega (arith, c.requires.0.job.few-pairs)))

pub slice_bounds-subsquares-end : goal.slice_bounds-subsquares-end
slice_bounds-subsquares-end c = omega (arith, c.requires.0.job.few-pairs)

pub slice_bounds-total_betas-end-5 : goal.slice_bounds-total_betas-end-5
slice_bounds-total_betas-end-5 c = sym (length-take-le _ _ (omega (arith, c.requires.0.job.few-pairs)))

pub slice_bounds-subfourths-end : goal.slice_bounds-subfourths-end
slice_bounds-subfourths-end c = omega (arith, c.requires.0.job.few-pairs)

pub slice_bounds-total_betas-end-6 : goal.slice_bounds-total_betas-end-6
slice_bounds-total_betas-end-6 c = sym (length-take-le _ _ (omega (arith, c.requires.0.job.few-pairs)))

-- ---- what is called
pub make_plan-layout-requires : goal.make_plan-layout-requires
make_plan-layout-requires c =
    let p = c.requires.0.job in
    let few = p.edges.few in
    (p.edges, p.few-edges, p.pairs, omega arith, p.few-near)

pub order_pairs-requires : goal.order_pairs-requires
order_pairs-requires c =
    let p = c.requires.0.job in
    (p.pairs, p.edges.few, length-take-le _ _ (omega (arith, p.few-pairs)))

pub slice_bounds-room-end : goal.slice_bounds-room-end
slice_bounds-room-end c = (let it : c.make_plan-layout.result.room ≤ length c.args.work.now = room_fits (of-one-beta c.requires.0) c.make_plan-layout.ensures in it)

pub slice_bounds-room-end-2 : goal.slice_bounds-room-end-2
slice_bounds-room-end-2 c = sym (length-take-le _ c.args.work.now ((let it : c.make_plan-layout.result.room ≤ length c.args.work.now = room_fits (of-one-beta c.requires.0) c.make_plan-layout.ensures in it)))

pub total_betas-sound-requires : goal.total_betas-sound-requires
total_betas-sound-requires c =
    let a = c.args in
    let p = c.requires in
    let m = c.make_plan-layout in
    let o = c.order_pairs in
    let few = p.0.job.edges.few in
    let holds : Holds m.new.plan a.n = omega (arith, m.auto.plan) in
    let l = p.0.job.few-edges in
    let k = p.0.job.few-pairs in
    let long = p.1.long in (
      staged (of-one-beta p.0) m.ensures o.new.order _ _ _ a.elementwise a.less refl holds o.ensures long (length-take-le _ a.work.now ((let it : c.make_plan-layout.result.room ≤ length c.args.work.now = room_fits (of-one-beta c.requires.0) c.make_plan-layout.ensures in it))) (length-take-le _ _ (omega (arith, k))),
      refl,
      summable a.early.now a.late.now a.chunks a.bits.now _ p.1 (length-take-le _ _ (omega (arith, l))),
      p.0.matched ∙ sym long,
      omega (arith, l, p.0.matched),
      length-take-le _ _ (omega (arith, l)) ∙ ap (λ i. 2 * i) (sym p.0.matched),
      p.0.on_grid,
      p.0.few-betas,
      k,
      record { part-squared = length-take-le _ _ (omega (arith, k)); part-fourthed = length-take-le _ _ (omega (arith, k)); squared = refl; fourthed = refl },
      p.2,
      p.3,
    )

pub shape_of-squares : goal.shape_of-squares
shape_of-squares c = c.clear_unsound.auto.list ∙ c.total_betas-sound.auto.squares

pub shape_of-fourths : goal.shape_of-fourths
shape_of-fourths c = c.clear_unsound-2.auto.list ∙ c.total_betas-sound.auto.fourths

pub returns : goal.returns
returns c =
    let a = c.args in
    let p = c.requires in
    let m = c.make_plan-layout in
    let t = c.total_betas-sound in
    let zero = c.clear in
    let x = c.clear_unsound in
    let y = c.clear_unsound-2 in
    let of = chunks_plan _ m.new.plan a.early.now a.late.now a.us.now a.vs.now a.n a.w _ _ _ _ m.ensures p.0.job.some a.mag.now a.betas.now p.0.matched a.elementwise a.less a.chunks a.bits.now p.1.long p.1.given in
    let said = t.ensures (job_in a.n a.w a.early.now a.late.now (paired_factors (all_couplings a.betas.now a.mag.now)) (stepping a.elementwise) a.chunks) of in
    finished (of-one-beta p.0) m.ensures _ _ _ _ t.result _ _ a.work.now zero.new.list refl (zero.ensures ∙ ap zeros t.auto.room)
    (cleared-answers _ t.result _ t.new.squares _ _ said.0 (λ h. (said.1 h).squared) (t.auto.squares ∙ p.2) x.ensures)
    (cleared-answers _ t.result _ t.new.fourths _ _ said.0 (λ h. (said.1 h).fourthed) (t.auto.fourths ∙ p.3) y.ensures)
