-- The checks, then the chunks of drawn configurations.
use mathlib.Core.Path.{refl}
use mathlib.Core.Bool.{Bool}
use native.Mathlib.Omega.{arith}
use lib.ListN.{length}
use Rattle.std.proofs.lemmas.Result.{err_from_is_err_and}
use Rattle.refusals.specs.AcceptedTotals.{misfits}
use Rattle.kept_edges.proofs.Laws.Fronts.{early-part, late-part, early-fits, late-fits}
use Rattle.totals_chunks.specs.Totals.{drawn_chunks}
use Rattle.totals_call.specs.Given.{Given, sums}
use Rattle.totals_call.specs.Calls.{given}
use Rattle.totals_call.proofs.Laws.Refusing.{drawn_parts}
use Rattle.totals_call.proofs.Laws.Calling.{refused-early, refused-lists, all-added, refused-14}
use Rattle.totals_call.proofs.Laws.Entering.{few-products, fits_both, drawn-lists, drawn-passed, drawn-numbered, totals_kept}
use Rattle.entry_sample.proofs.entry.sample.Goals as goal

pub returns-in_err-job : goal.returns-in_err-job
returns-in_err-job c =
    let p = err_from_is_err_and c.from_residual.result c.from_residual.ensures.1 in
    let a = c.args in
    let G : Given = given a.n a.floor a.a.now a.b.now a.m.now a.us.now a.vs.now a.betas.now a.factors.now a.manner a.arrangement a.caller in
    let M : Bool = misfits (sums G) (length a.squares.now) (length a.fourths.now) in
    let P = drawn_parts G M (length a.work.now) a.seed a.from a.to a.samples in
    rw (p.1, p.2) (record { call = refused-early P _ c.in_err-job.ensures.refusal })

pub overflow_mul-betas : goal.overflow_mul-betas
overflow_mul-betas c =
    let j = c.in_ok-job.ensures in
    omega (arith, few-products _ _ j.betas_pass.few j.ready.passed.few-pairs)

pub check_sampling-requires : goal.check_sampling-requires
check_sampling-requires c =
    let j = c.in_ok-job.ensures in
    let g = j.ready in
    (g.pairs, g.edges.few, g.edges.narrow, g.few-edges, j.betas_pass.few)

pub returns-in_err-check_sampling : goal.returns-in_err-check_sampling
returns-in_err-check_sampling c =
    let p = err_from_is_err_and c.from_residual-in_err-check_sampling.result c.from_residual-in_err-check_sampling.ensures.1 in
    let a = c.args in
    let G : Given = given a.n a.floor a.a.now a.b.now a.m.now a.us.now a.vs.now a.betas.now a.factors.now a.manner a.arrangement a.caller in
    let M : Bool = misfits (sums G) (length a.squares.now) (length a.fourths.now) in
    let P = drawn_parts G M (length a.work.now) a.seed a.from a.to a.samples in
    let k = c.in_ok-job.ensures in
    let listed =
    drawn-lists k.ready _ _ c.takes_less-less.ensures (length a.betas.now) a.factors.now a.from a.to a.samples M (length a.work.now) _ c.in_err-check_sampling.ensures in
    rw (p.1, p.2) (record { call = refused-lists P k.refusal _ listed })

pub slice_bounds-early-end : goal.slice_bounds-early-end
slice_bounds-early-end c = early-fits c.in_ok-job.ensures.ready.written

pub slice_bounds-ends-end : goal.slice_bounds-ends-end
slice_bounds-ends-end c = early-part c.in_ok-job.ensures.ready.written

pub slice_bounds-late-end : goal.slice_bounds-late-end
slice_bounds-late-end c = late-fits c.in_ok-job.ensures.ready.written

pub slice_bounds-total_job-end : goal.slice_bounds-total_job-end
slice_bounds-total_job-end c = late-part c.in_ok-job.ensures.ready.written

pub total_job-requires : goal.total_job-requires
total_job-requires c =
    let a = c.args in
    let G : Given = given a.n a.floor a.a.now a.b.now a.m.now a.us.now a.vs.now a.betas.now a.factors.now a.manner a.arrangement a.caller in
    let M : Bool = misfits (sums G) (length a.squares.now) (length a.fourths.now) in
    let k = c.in_ok-job.ensures in
    let passed =
    drawn-passed k.ready _ (length a.betas.now) a.factors.now a.from a.to a.samples M (length a.work.now) _ k.betas_pass.few c.in_ok-check_sampling.ensures refl in
    let fitting = fits_both (sums G) (length a.squares.now) (length a.fourths.now) passed.1 in
    (passed.0, drawn-numbered a.seed a.from a.to a.samples _ _ _ refl, fitting.0, fitting.1)

pub sampled_count-requires : goal.sampled_count-requires
sampled_count-requires c =
    let a = c.args in
    let G : Given = given a.n a.floor a.a.now a.b.now a.m.now a.us.now a.vs.now a.betas.now a.factors.now a.manner a.arrangement a.caller in
    let M : Bool = misfits (sums G) (length a.squares.now) (length a.fourths.now) in
    let k = c.in_ok-job.ensures in
    let passed =
    drawn-passed k.ready _ (length a.betas.now) a.factors.now a.from a.to a.samples M (length a.work.now) _ k.betas_pass.few c.in_ok-check_sampling.ensures refl in
    passed.2

pub shape_of-squares-then-total_job : goal.shape_of-squares-then-total_job
shape_of-squares-then-total_job c = c.total_job.auto.squares

pub shape_of-fourths-then-total_job : goal.shape_of-fourths-then-total_job
shape_of-fourths-then-total_job c = c.total_job.auto.fourths

pub shape_of-work-then-total_job : goal.shape_of-work-then-total_job
shape_of-work-then-total_job c = c.total_job.auto.work

pub returns-then-total_job : goal.returns-then-total_job
returns-then-total_job c =
    let a = c.args in
    let G : Given = given a.n a.floor a.a.now a.b.now a.m.now a.us.now a.vs.now a.betas.now a.factors.now a.manner a.arrangement a.caller in
    let M : Bool = misfits (sums G) (length a.squares.now) (length a.fourths.now) in
    let P = drawn_parts G M (length a.work.now) a.seed a.from a.to a.samples in
    let k = c.in_ok-job.ensures in
    let listed =
    drawn-lists k.ready _ _ c.takes_less-less.ensures (length a.betas.now) a.factors.now a.from a.to a.samples M (length a.work.now) _ c.in_ok-check_sampling.ensures in
    let t = c.total_job in
    let found =
    totals_kept k.ready (length a.betas.now) a.factors.now c.is_elementwise-elementwise.ensures c.takes_less-less.ensures (drawn_chunks a.seed a.from a.to a.samples) t.ensures in
    record { call = all-added P k.refusal listed found c.if-total_job.true c.sampled_count.result c.sampled_count.ensures }

pub shape_of-squares : goal.shape_of-squares
shape_of-squares c = c.total_job.auto.squares

pub shape_of-fourths : goal.shape_of-fourths
shape_of-fourths c = c.total_job.auto.fourths

pub shape_of-work : goal.shape_of-work
shape_of-work c = c.total_job.auto.work

pub returns : goal.returns
returns c =
    let a = c.args in
    let G : Given = given a.n a.floor a.a.now a.b.now a.m.now a.us.now a.vs.now a.betas.now a.factors.now a.manner a.arrangement a.caller in
    let M : Bool = misfits (sums G) (length a.squares.now) (length a.fourths.now) in
    let P = drawn_parts G M (length a.work.now) a.seed a.from a.to a.samples in
    let k = c.in_ok-job.ensures in
    let listed =
    drawn-lists k.ready _ _ c.takes_less-less.ensures (length a.betas.now) a.factors.now a.from a.to a.samples M (length a.work.now) _ c.in_ok-check_sampling.ensures in
    let passed =
    drawn-passed k.ready _ (length a.betas.now) a.factors.now a.from a.to a.samples M (length a.work.now) _ k.betas_pass.few c.in_ok-check_sampling.ensures refl in
    let fitting = fits_both (sums G) (length a.squares.now) (length a.fourths.now) passed.1 in
    let t = c.total_job in
    let found =
    totals_kept k.ready (length a.betas.now) a.factors.now c.is_elementwise-elementwise.ensures c.takes_less-less.ensures (drawn_chunks a.seed a.from a.to a.samples) t.ensures in
    record { call = refused-14 P k.refusal listed found c.if-total_job.false fitting.0 fitting.1 }
