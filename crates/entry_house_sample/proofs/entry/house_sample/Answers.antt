-- The checks, then the chunks of drawn configurations.
use mathlib.Core.Path.{refl}
use mathlib.Core.Bool.{Bool}
use Prim.Native.Nat.{◌*◌}
use native.Mathlib.Omega.{arith}
use lib.ListN.{length}
use Rattle.std.proofs.lemmas.Result.{err_from_is_err_and}
use Rattle.refusals.specs.AcceptedTotals.{misfits}
use Rattle.refusals.specs.Couplings.{all_couplings}
use Rattle.refusals.specs.Edges.{kept_magnitudes}
use Rattle.refusals.specs.Request.{house}
use Rattle.kept_edges.proofs.Laws.Fronts.{early-part, late-part, mag_part, early-fits, late-fits, mag_fits}
use Rattle.totals_chunks.specs.Totals.{drawn_chunks}
use Rattle.totals_call.specs.Given.{Given, sums}
use Rattle.totals_call.specs.Calls.{house_given}
use Rattle.totals_call.proofs.Laws.Refusing.{drawn_parts_by}
use Rattle.totals_call.proofs.Laws.Calling.{refused-early, refused-lists, all-added, refused-14}
use Rattle.totals_call.proofs.Laws.Entering.{few-products, fits_both, drawn-numbered}
use Rattle.totals_house_betas.proofs.Laws.Entering.{drawn-housed, drawn-house-passed, totals_housed}
use Rattle.entry_house_sample.proofs.entry.house_sample.Goals as goal

pub returns-in_err-job : goal.returns-in_err-job
returns-in_err-job c =
    let p = err_from_is_err_and c.from_residual.result c.from_residual.ensures.1 in
    let a = c.args in
    let given : Given = house_given a.n a.floor a.a.now a.b.now a.m.now a.us.now a.vs.now a.betas.now a.manner a.arrangement a.caller in
    let misfit : Bool = misfits (sums given) (length a.squares.now) (length a.fourths.now) in
    let kept = kept_magnitudes a.a.now a.b.now a.m.now in
    let parts = drawn_parts_by given house (all_couplings a.betas.now kept) (length a.betas.now * length kept) misfit (length a.work.now) a.seed a.from a.to a.samples in
    rw (p.1, p.2) (record { call = refused-early parts _ c.in_err-job.ensures.refusal })

pub slice_bounds-mag-end : goal.slice_bounds-mag-end
slice_bounds-mag-end c = mag_fits c.in_ok-job.ensures.ready.written

pub slice_bounds-check_house_sampling-end : goal.slice_bounds-check_house_sampling-end
slice_bounds-check_house_sampling-end c = mag_part c.in_ok-job.ensures.ready.written

pub overflow_mul-betas : goal.overflow_mul-betas
overflow_mul-betas c =
    let j = c.in_ok-job.ensures in
    omega (arith, few-products _ _ j.betas_pass.few j.ready.passed.few-pairs)

pub check_house_sampling-requires : goal.check_house_sampling-requires
check_house_sampling-requires c =
    let j = c.in_ok-job.ensures in
    let g = j.ready in
    (g.pairs, g.edges.few, g.edges.narrow, omega (arith, g.few-edges, mag_part g.written))

pub returns-in_err-check_house_sampling : goal.returns-in_err-check_house_sampling
returns-in_err-check_house_sampling c =
    let p = err_from_is_err_and c.from_residual-in_err-check_house_sampling.result c.from_residual-in_err-check_house_sampling.ensures.1 in
    let a = c.args in
    let given : Given = house_given a.n a.floor a.a.now a.b.now a.m.now a.us.now a.vs.now a.betas.now a.manner a.arrangement a.caller in
    let misfit : Bool = misfits (sums given) (length a.squares.now) (length a.fourths.now) in
    let kept = kept_magnitudes a.a.now a.b.now a.m.now in
    let parts = drawn_parts_by given house (all_couplings a.betas.now kept) (length a.betas.now * length kept) misfit (length a.work.now) a.seed a.from a.to a.samples in
    let k = c.in_ok-job.ensures in
    rw (p.1, p.2) (record {
      call = refused-lists parts k.refusal _ (drawn-housed k.ready a.betas.now _ _ c.takes_less-less.ensures a.from a.to a.samples misfit (length a.work.now) _ c.in_err-check_house_sampling.ensures);
    })

pub slice_bounds-early-end : goal.slice_bounds-early-end
slice_bounds-early-end c = early-fits c.in_ok-job.ensures.ready.written

pub slice_bounds-ends-end : goal.slice_bounds-ends-end
slice_bounds-ends-end c = early-part c.in_ok-job.ensures.ready.written

pub slice_bounds-late-end : goal.slice_bounds-late-end
slice_bounds-late-end c = late-fits c.in_ok-job.ensures.ready.written

pub slice_bounds-total_house_job-end : goal.slice_bounds-total_house_job-end
slice_bounds-total_house_job-end c = late-part c.in_ok-job.ensures.ready.written

pub slice_bounds-mag-end-2 : goal.slice_bounds-mag-end-2
slice_bounds-mag-end-2 c = mag_fits c.in_ok-job.ensures.ready.written

pub slice_bounds-total_house_job-end-2 : goal.slice_bounds-total_house_job-end-2
slice_bounds-total_house_job-end-2 c = mag_part c.in_ok-job.ensures.ready.written

pub total_house_job-requires : goal.total_house_job-requires
total_house_job-requires c =
    let a = c.args in
    let given : Given = house_given a.n a.floor a.a.now a.b.now a.m.now a.us.now a.vs.now a.betas.now a.manner a.arrangement a.caller in
    let misfit : Bool = misfits (sums given) (length a.squares.now) (length a.fourths.now) in
    let k = c.in_ok-job.ensures in
    let passed =
    drawn-house-passed k.ready a.betas.now _ a.from a.to a.samples misfit (length a.work.now) _ k.betas_pass.few c.in_ok-check_house_sampling.ensures refl in
    let fit = fits_both (sums given) (length a.squares.now) (length a.fourths.now) passed.1 in
    (passed.0, drawn-numbered a.seed a.from a.to a.samples _ _ _ refl, fit.0, fit.1)

pub sampled_count-requires : goal.sampled_count-requires
sampled_count-requires c =
    let a = c.args in
    let given : Given = house_given a.n a.floor a.a.now a.b.now a.m.now a.us.now a.vs.now a.betas.now a.manner a.arrangement a.caller in
    let misfit : Bool = misfits (sums given) (length a.squares.now) (length a.fourths.now) in
    let k = c.in_ok-job.ensures in
    let passed =
    drawn-house-passed k.ready a.betas.now _ a.from a.to a.samples misfit (length a.work.now) _ k.betas_pass.few c.in_ok-check_house_sampling.ensures refl in
    passed.2

pub shape_of-squares-then-total_house_job : goal.shape_of-squares-then-total_house_job
shape_of-squares-then-total_house_job c = c.total_house_job.auto.squares

pub shape_of-fourths-then-total_house_job : goal.shape_of-fourths-then-total_house_job
shape_of-fourths-then-total_house_job c = c.total_house_job.auto.fourths

pub shape_of-work-then-total_house_job : goal.shape_of-work-then-total_house_job
shape_of-work-then-total_house_job c = c.total_house_job.auto.work

pub returns-then-total_house_job : goal.returns-then-total_house_job
returns-then-total_house_job c =
    let a = c.args in
    let given : Given = house_given a.n a.floor a.a.now a.b.now a.m.now a.us.now a.vs.now a.betas.now a.manner a.arrangement a.caller in
    let misfit : Bool = misfits (sums given) (length a.squares.now) (length a.fourths.now) in
    let kept = kept_magnitudes a.a.now a.b.now a.m.now in
    let parts = drawn_parts_by given house (all_couplings a.betas.now kept) (length a.betas.now * length kept) misfit (length a.work.now) a.seed a.from a.to a.samples in
    let k = c.in_ok-job.ensures in
    record {
      call = all-added parts k.refusal (drawn-housed k.ready a.betas.now _ _ c.takes_less-less.ensures a.from a.to a.samples misfit (length a.work.now) _ c.in_ok-check_house_sampling.ensures) (totals_housed k.ready a.betas.now c.is_elementwise-elementwise.ensures c.takes_less-less.ensures (drawn_chunks a.seed a.from a.to a.samples) c.total_house_job.ensures)
          c.if-total_house_job.true c.sampled_count.result c.sampled_count.ensures;
    }

pub shape_of-squares : goal.shape_of-squares
shape_of-squares c = c.total_house_job.auto.squares

pub shape_of-fourths : goal.shape_of-fourths
shape_of-fourths c = c.total_house_job.auto.fourths

pub shape_of-work : goal.shape_of-work
shape_of-work c = c.total_house_job.auto.work

pub returns : goal.returns
returns c =
    let a = c.args in
    let given : Given = house_given a.n a.floor a.a.now a.b.now a.m.now a.us.now a.vs.now a.betas.now a.manner a.arrangement a.caller in
    let misfit : Bool = misfits (sums given) (length a.squares.now) (length a.fourths.now) in
    let kept = kept_magnitudes a.a.now a.b.now a.m.now in
    let parts = drawn_parts_by given house (all_couplings a.betas.now kept) (length a.betas.now * length kept) misfit (length a.work.now) a.seed a.from a.to a.samples in
    let k = c.in_ok-job.ensures in
    let passed =
    drawn-house-passed k.ready a.betas.now _ a.from a.to a.samples misfit (length a.work.now) _ k.betas_pass.few c.in_ok-check_house_sampling.ensures refl in
    let fit = fits_both (sums given) (length a.squares.now) (length a.fourths.now) passed.1 in
    record {
      call = refused-14 parts k.refusal (drawn-housed k.ready a.betas.now _ _ c.takes_less-less.ensures a.from a.to a.samples misfit (length a.work.now) _ c.in_ok-check_house_sampling.ensures) (totals_housed k.ready a.betas.now c.is_elementwise-elementwise.ensures c.takes_less-less.ensures (drawn_chunks a.seed a.from a.to a.samples) c.total_house_job.ensures)
          c.if-total_house_job.false fit.0 fit.1;
    }
