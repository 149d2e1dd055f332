-- The checks, then the chunks of all configurations.
use mathlib.Core.Path.{refl, sym, ap, ◌∙◌}
use mathlib.Core.Bool.{Bool}
use Prim.Native.Nat.{ℕ, ◌^◌}
use native.Mathlib.Omega.{arith}
use lib.ListN.{length}
use lib.Seq.{length-take-le}
use Rattle.std.proofs.lemmas.Result.{err_from_is_err_and}
use Rattle.refusals.specs.AcceptedTotals.{misfits}
use Rattle.refusals.specs.Request.{most_counted}
use Rattle.kept_edges.proofs.Laws.Fronts.{early-part, late-part, early-fits, late-fits}
use Rattle.entry_correlations.specs.Correlations.{manner_of}
use Rattle.totals_call.specs.Given.{Given, early, late, window, sums}
use Rattle.totals_call.specs.Calls.{given}
use Rattle.totals_call.proofs.Laws.Refusing.{all_parts}
use Rattle.totals_call.proofs.Laws.Calling.{refused-early, refused-lists, all-added, refused-14}
use Rattle.totals_call.proofs.Laws.Entering.{few-products, fits_both, front_fits, front-is, joined, all-lists, all-passed, all-numbered, all_are, free-kept, totals_kept}
use Rattle.entry_exhaustive.proofs.entry.exhaustive.Goals as goal

pub returns-in_err-job : goal.returns-in_err-job
returns-in_err-job c =
    let p = err_from_is_err_and c.from_residual.result c.from_residual.ensures.1 in
    let a = c.args in
    let G : Given = given a.n a.floor a.a.now a.b.now a.m.now a.us.now a.vs.now a.betas.now a.factors.now a.manner a.arrangement a.caller in
    let M : Bool = misfits (sums G) (length a.squares.now) (length a.fourths.now) in
    rw (p.1, p.2) (record { call = refused-early (all_parts G M (length a.work.now) most_counted) _ c.in_err-job.ensures.refusal })

pub slice_bounds-early-end : goal.slice_bounds-early-end
slice_bounds-early-end c = early-fits c.in_ok-job.ensures.ready.written

pub slice_bounds-number_free_edges-end : goal.slice_bounds-number_free_edges-end
slice_bounds-number_free_edges-end c = early-part c.in_ok-job.ensures.ready.written

pub slice_bounds-late-end : goal.slice_bounds-late-end
slice_bounds-late-end c = late-fits c.in_ok-job.ensures.ready.written

pub slice_bounds-number_free_edges-end-2 : goal.slice_bounds-number_free_edges-end-2
slice_bounds-number_free_edges-end-2 c = late-part c.in_ok-job.ensures.ready.written

pub slice_bounds-bits-end : goal.slice_bounds-bits-end
slice_bounds-bits-end c = c.in_ok-job.ensures.ready.few-edges

pub slice_bounds-number_free_edges-end-3 : goal.slice_bounds-number_free_edges-end-3
slice_bounds-number_free_edges-end-3 c = sym (length-take-le _ _ c.in_ok-job.ensures.ready.few-edges)

pub number_free_edges-free-requires : goal.number_free_edges-free-requires
number_free_edges-free-requires c = let g = c.in_ok-job.ensures.ready in (joined g, g.edges.few, length-take-le _ _ g.few-edges ∙ early-part g.written)

pub overflow_mul-betas : goal.overflow_mul-betas
overflow_mul-betas c =
    let j = c.in_ok-job.ensures in
    omega (arith, few-products _ _ j.betas_pass.few j.ready.passed.few-pairs)

pub check_enumeration-requires : goal.check_enumeration-requires
check_enumeration-requires c =
    let j = c.in_ok-job.ensures in
    let g = j.ready in
    (g.pairs, g.edges.few, g.edges.narrow, g.few-edges, j.betas_pass.few)

pub returns-in_err-check_enumeration : goal.returns-in_err-check_enumeration
returns-in_err-check_enumeration c =
    let p = err_from_is_err_and c.from_residual-in_err-check_enumeration.result c.from_residual-in_err-check_enumeration.ensures.1 in
    let a = c.args in
    let G : Given = given a.n a.floor a.a.now a.b.now a.m.now a.us.now a.vs.now a.betas.now a.factors.now a.manner a.arrangement a.caller in
    let M : Bool = misfits (sums G) (length a.squares.now) (length a.fourths.now) in
    let j = c.in_ok-job.ensures in
    let is = free-kept j.ready _ c.number_free_edges-free.ensures.0 in
    rw (p.1, p.2) (record {
      call = refused-lists (all_parts G M (length a.work.now) most_counted) j.refusal _
          (all-lists j.ready a.caller _ _ c.takes_less-less.ensures (length a.betas.now) a.factors.now _ _ most_counted M (length a.work.now) _ is c.in_err-check_enumeration.ensures);
    })

pub all_chunks-chunks-requires : goal.all_chunks-chunks-requires
all_chunks-chunks-requires c =
    let a = c.args in
    let G : Given = given a.n a.floor a.a.now a.b.now a.m.now a.us.now a.vs.now a.betas.now a.factors.now a.manner a.arrangement a.caller in
    let M : Bool = misfits (sums G) (length a.squares.now) (length a.fourths.now) in
    let j = c.in_ok-job.ensures in
    let p = all-passed j.ready a.caller _ (length a.betas.now) a.factors.now _ most_counted M (length a.work.now) _ j.betas_pass.few c.in_ok-check_enumeration.ensures refl in
    omega (arith, p.2)

pub slice_bounds-early-end-2 : goal.slice_bounds-early-end-2
slice_bounds-early-end-2 c = early-fits c.in_ok-job.ensures.ready.written

pub slice_bounds-total_job-end : goal.slice_bounds-total_job-end
slice_bounds-total_job-end c = early-part c.in_ok-job.ensures.ready.written

pub slice_bounds-late-end-2 : goal.slice_bounds-late-end-2
slice_bounds-late-end-2 c = late-fits c.in_ok-job.ensures.ready.written

pub slice_bounds-total_job-end-2 : goal.slice_bounds-total_job-end-2
slice_bounds-total_job-end-2 c = late-part c.in_ok-job.ensures.ready.written

pub slice_bounds-bits-end-2 : goal.slice_bounds-bits-end-2
slice_bounds-bits-end-2 c =
    let f = c.number_free_edges-free in
    front_fits f.new.bits _ (f.auto.bits ∙ length-take-le _ _ c.in_ok-job.ensures.ready.few-edges)

pub slice_bounds-total_job-end-3 : goal.slice_bounds-total_job-end-3
slice_bounds-total_job-end-3 c =
    let f = c.number_free_edges-free in
    sym (length-take-le _ _ (front_fits f.new.bits _ (f.auto.bits ∙ length-take-le _ _ c.in_ok-job.ensures.ready.few-edges)))

pub total_job-requires : goal.total_job-requires
total_job-requires c =
    let a = c.args in
    let G : Given = given a.n a.floor a.a.now a.b.now a.m.now a.us.now a.vs.now a.betas.now a.factors.now a.manner a.arrangement a.caller in
    let M : Bool = misfits (sums G) (length a.squares.now) (length a.fourths.now) in
    let j = c.in_ok-job.ensures in
    let p = all-passed j.ready a.caller _ (length a.betas.now) a.factors.now _ most_counted M (length a.work.now) _ j.betas_pass.few c.in_ok-check_enumeration.ensures refl in
    let q = fits_both (sums G) (length a.squares.now) (length a.fourths.now) p.1 in
    let f = c.number_free_edges-free in
    let bits = front-is f.new.bits _ (f.auto.bits ∙ length-take-le _ _ j.ready.few-edges) ∙ f.ensures.1 in
    (p.0, all-numbered _ f.result _ _ _ c.all_chunks-chunks.ensures p.2 f.ensures.0 bits, q.0, q.1)

pub pow2-requires : goal.pow2-requires
pow2-requires c =
    let a = c.args in
    let G : Given = given a.n a.floor a.a.now a.b.now a.m.now a.us.now a.vs.now a.betas.now a.factors.now a.manner a.arrangement a.caller in
    let M : Bool = misfits (sums G) (length a.squares.now) (length a.fourths.now) in
    let j = c.in_ok-job.ensures in
    let p = all-passed j.ready a.caller _ (length a.betas.now) a.factors.now _ most_counted M (length a.work.now) _ j.betas_pass.few c.in_ok-check_enumeration.ensures refl in
    omega (arith, p.2)

pub shape_of-squares-then-total_job : goal.shape_of-squares-then-total_job
shape_of-squares-then-total_job c = c.total_job.auto.squares

pub shape_of-fourths-then-total_job : goal.shape_of-fourths-then-total_job
shape_of-fourths-then-total_job c = c.total_job.auto.fourths

pub shape_of-work-then-total_job : goal.shape_of-work-then-total_job
shape_of-work-then-total_job c = c.total_job.auto.work

pub returns-then-total_job : goal.returns-then-total_job
returns-then-total_job c =
    let a = c.args in
    let G : Given = given a.n a.floor a.a.now a.b.now a.m.now a.us.now a.vs.now a.betas.now a.factors.now a.manner a.arrangement a.caller in
    let M : Bool = misfits (sums G) (length a.squares.now) (length a.fourths.now) in
    let j = c.in_ok-job.ensures in
    let is = free-kept j.ready _ c.number_free_edges-free.ensures.0 in
    let listed = all-lists j.ready a.caller _ _ c.takes_less-less.ensures (length a.betas.now) a.factors.now _ _ most_counted M (length a.work.now) _ is c.in_ok-check_enumeration.ensures in
    let found =
    all_are a.n (window G) (early G) (late G) a.factors.now (manner_of a.manner) a.us.now a.vs.now (length a.betas.now) _ _ _ is c.all_chunks-chunks.result c.all_chunks-chunks.ensures
    (totals_kept j.ready (length a.betas.now) a.factors.now c.is_elementwise-elementwise.ensures c.takes_less-less.ensures c.all_chunks-chunks.result c.total_job.ensures) in
    record {
      call = all-added (all_parts G M (length a.work.now) most_counted) j.refusal listed found c.if-total_job.true c.pow2.result (c.pow2.ensures ∙ ap (λ (i : ℕ). 2 ^ i) is);
    }

pub shape_of-squares : goal.shape_of-squares
shape_of-squares c = c.total_job.auto.squares

pub shape_of-fourths : goal.shape_of-fourths
shape_of-fourths c = c.total_job.auto.fourths

pub shape_of-work : goal.shape_of-work
shape_of-work c = c.total_job.auto.work

pub returns : goal.returns
returns c =
    let a = c.args in
    let G : Given = given a.n a.floor a.a.now a.b.now a.m.now a.us.now a.vs.now a.betas.now a.factors.now a.manner a.arrangement a.caller in
    let M : Bool = misfits (sums G) (length a.squares.now) (length a.fourths.now) in
    let j = c.in_ok-job.ensures in
    let p = all-passed j.ready a.caller _ (length a.betas.now) a.factors.now _ most_counted M (length a.work.now) _ j.betas_pass.few c.in_ok-check_enumeration.ensures refl in
    let q = fits_both (sums G) (length a.squares.now) (length a.fourths.now) p.1 in
    let is = free-kept j.ready _ c.number_free_edges-free.ensures.0 in
    let listed = all-lists j.ready a.caller _ _ c.takes_less-less.ensures (length a.betas.now) a.factors.now _ _ most_counted M (length a.work.now) _ is c.in_ok-check_enumeration.ensures in
    let found =
    all_are a.n (window G) (early G) (late G) a.factors.now (manner_of a.manner) a.us.now a.vs.now (length a.betas.now) _ _ _ is c.all_chunks-chunks.result c.all_chunks-chunks.ensures
    (totals_kept j.ready (length a.betas.now) a.factors.now c.is_elementwise-elementwise.ensures c.takes_less-less.ensures c.all_chunks-chunks.result c.total_job.ensures) in
    record { call = refused-14 (all_parts G M (length a.work.now) most_counted) j.refusal listed found c.if-total_job.false q.0 q.1 }
