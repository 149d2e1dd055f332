-- The checks, then the chunks of all configurations.
use mathlib.Core.Path.{refl, sym, ap, ◌∙◌}
use mathlib.Core.Bool.{Bool}
use Prim.Native.Nat.{ℕ, ◌*◌, ◌^◌}
use native.Mathlib.Omega.{arith}
use lib.ListN.{length}
use lib.Seq.{length-take-le}
use Rattle.std.proofs.lemmas.Result.{err_from_is_err_and}
use Rattle.refusals.specs.AcceptedTotals.{misfits}
use Rattle.refusals.specs.Couplings.{all_couplings}
use Rattle.refusals.specs.Edges.{kept_magnitudes}
use Rattle.refusals.specs.Request.{house, most_counted}
use Rattle.kept_edges.proofs.Laws.Fronts.{early-part, late-part, mag_part, early-fits, late-fits, mag_fits}
use Rattle.entry_correlations.specs.Correlations.{manner_of}
use Rattle.totals_call.specs.Given.{Given, early, late, window, sums}
use Rattle.totals_call.specs.Calls.{house_given}
use Rattle.totals_call.proofs.Laws.Refusing.{all_parts_by}
use Rattle.totals_call.proofs.Laws.Calling.{refused-early, refused-lists, all-added, refused-14}
use Rattle.totals_call.proofs.Laws.Entering.{few-products, fits_both, front_fits, front-is, joined, all-numbered, all_are, free-kept}
use Rattle.totals_house_betas.proofs.Laws.Entering.{all-housed, all-house-passed, totals_housed}
use Rattle.entry_house_exhaustive.proofs.entry.house_exhaustive.Goals as goal

pub returns-in_err-job : goal.returns-in_err-job
returns-in_err-job c =
    let p = err_from_is_err_and c.from_residual.result c.from_residual.ensures.1 in
    let a = c.args in
    let G : Given = house_given a.n a.floor a.a.now a.b.now a.m.now a.us.now a.vs.now a.betas.now a.manner a.arrangement a.caller in
    let M : Bool = misfits (sums G) (length a.squares.now) (length a.fourths.now) in
    rw (p.1, p.2) (record { call = refused-early (all_parts_by G house (all_couplings a.betas.now (kept_magnitudes a.a.now a.b.now a.m.now)) (length a.betas.now * length (kept_magnitudes a.a.now a.b.now a.m.now)) M (length a.work.now) most_counted) _ c.in_err-job.ensures.refusal })

pub slice_bounds-early-end : goal.slice_bounds-early-end
slice_bounds-early-end c = early-fits c.in_ok-job.ensures.ready.written

pub slice_bounds-number_free_edges-end : goal.slice_bounds-number_free_edges-end
slice_bounds-number_free_edges-end c = early-part c.in_ok-job.ensures.ready.written

pub slice_bounds-late-end : goal.slice_bounds-late-end
slice_bounds-late-end c = late-fits c.in_ok-job.ensures.ready.written

pub slice_bounds-number_free_edges-end-2 : goal.slice_bounds-number_free_edges-end-2
slice_bounds-number_free_edges-end-2 c = late-part c.in_ok-job.ensures.ready.written

pub slice_bounds-bits-end : goal.slice_bounds-bits-end
slice_bounds-bits-end c = c.in_ok-job.ensures.ready.few-edges

pub slice_bounds-number_free_edges-end-3 : goal.slice_bounds-number_free_edges-end-3
slice_bounds-number_free_edges-end-3 c = sym (length-take-le _ _ c.in_ok-job.ensures.ready.few-edges)

pub number_free_edges-free-requires : goal.number_free_edges-free-requires
number_free_edges-free-requires c = let g = c.in_ok-job.ensures.ready in (joined g, g.edges.few, length-take-le _ _ g.few-edges ∙ early-part g.written)

pub slice_bounds-mag-end : goal.slice_bounds-mag-end
slice_bounds-mag-end c = mag_fits c.in_ok-job.ensures.ready.written

pub slice_bounds-check_house_enumeration-end : goal.slice_bounds-check_house_enumeration-end
slice_bounds-check_house_enumeration-end c = mag_part c.in_ok-job.ensures.ready.written

pub overflow_mul-betas : goal.overflow_mul-betas
overflow_mul-betas c =
    let j = c.in_ok-job.ensures in
    omega (arith, few-products _ _ j.betas_pass.few j.ready.passed.few-pairs)

pub check_house_enumeration-requires : goal.check_house_enumeration-requires
check_house_enumeration-requires c =
    let j = c.in_ok-job.ensures in
    let g = j.ready in
    (g.pairs, g.edges.few, g.edges.narrow, omega (arith, g.few-edges, mag_part g.written))

pub returns-in_err-check_house_enumeration : goal.returns-in_err-check_house_enumeration
returns-in_err-check_house_enumeration c =
    let p = err_from_is_err_and c.from_residual-in_err-check_house_enumeration.result c.from_residual-in_err-check_house_enumeration.ensures.1 in
    let a = c.args in
    let G : Given = house_given a.n a.floor a.a.now a.b.now a.m.now a.us.now a.vs.now a.betas.now a.manner a.arrangement a.caller in
    let M : Bool = misfits (sums G) (length a.squares.now) (length a.fourths.now) in
    let j = c.in_ok-job.ensures in
    let is = free-kept j.ready _ c.number_free_edges-free.ensures.0 in
    rw (p.1, p.2) (record {
      call = refused-lists (all_parts_by G house (all_couplings a.betas.now (kept_magnitudes a.a.now a.b.now a.m.now)) (length a.betas.now * length (kept_magnitudes a.a.now a.b.now a.m.now)) M (length a.work.now) most_counted) j.refusal _
          (all-housed j.ready a.betas.now a.caller _ _ c.takes_less-less.ensures _ _ most_counted M (length a.work.now) _ is c.in_err-check_house_enumeration.ensures);
    })

pub all_chunks-chunks-requires : goal.all_chunks-chunks-requires
all_chunks-chunks-requires c =
    let a = c.args in
    let G : Given = house_given a.n a.floor a.a.now a.b.now a.m.now a.us.now a.vs.now a.betas.now a.manner a.arrangement a.caller in
    let M : Bool = misfits (sums G) (length a.squares.now) (length a.fourths.now) in
    let j = c.in_ok-job.ensures in
    let p = all-house-passed j.ready a.betas.now a.caller _ _ most_counted M (length a.work.now) _ j.betas_pass.few c.in_ok-check_house_enumeration.ensures refl in
    omega (arith, p.2)

pub slice_bounds-early-end-2 : goal.slice_bounds-early-end-2
slice_bounds-early-end-2 c = early-fits c.in_ok-job.ensures.ready.written

pub slice_bounds-total_house_job-end : goal.slice_bounds-total_house_job-end
slice_bounds-total_house_job-end c = early-part c.in_ok-job.ensures.ready.written

pub slice_bounds-late-end-2 : goal.slice_bounds-late-end-2
slice_bounds-late-end-2 c = late-fits c.in_ok-job.ensures.ready.written

pub slice_bounds-total_house_job-end-2 : goal.slice_bounds-total_house_job-end-2
slice_bounds-total_house_job-end-2 c = late-part c.in_ok-job.ensures.ready.written

pub slice_bounds-mag-end-2 : goal.slice_bounds-mag-end-2
slice_bounds-mag-end-2 c = mag_fits c.in_ok-job.ensures.ready.written

pub slice_bounds-total_house_job-end-3 : goal.slice_bounds-total_house_job-end-3
slice_bounds-total_house_job-end-3 c = mag_part c.in_ok-job.ensures.ready.written

pub slice_bounds-bits-end-2 : goal.slice_bounds-bits-end-2
slice_bounds-bits-end-2 c =
    let f = c.number_free_edges-free in
    front_fits f.new.bits _ (f.auto.bits ∙ length-take-le _ _ c.in_ok-job.ensures.ready.few-edges)

pub slice_bounds-total_house_job-end-4 : goal.slice_bounds-total_house_job-end-4
slice_bounds-total_house_job-end-4 c =
    let f = c.number_free_edges-free in
    sym (length-take-le _ _ (front_fits f.new.bits _ (f.auto.bits ∙ length-take-le _ _ c.in_ok-job.ensures.ready.few-edges)))

pub total_house_job-requires : goal.total_house_job-requires
total_house_job-requires c =
    let a = c.args in
    let G : Given = house_given a.n a.floor a.a.now a.b.now a.m.now a.us.now a.vs.now a.betas.now a.manner a.arrangement a.caller in
    let M : Bool = misfits (sums G) (length a.squares.now) (length a.fourths.now) in
    let j = c.in_ok-job.ensures in
    let p = all-house-passed j.ready a.betas.now a.caller _ _ most_counted M (length a.work.now) _ j.betas_pass.few c.in_ok-check_house_enumeration.ensures refl in
    let q = fits_both (sums G) (length a.squares.now) (length a.fourths.now) p.1 in
    let f = c.number_free_edges-free in
    let bits = front-is f.new.bits _ (f.auto.bits ∙ length-take-le _ _ j.ready.few-edges) ∙ f.ensures.1 in
    (p.0, all-numbered _ f.result _ _ _ c.all_chunks-chunks.ensures p.2 f.ensures.0 bits, q.0, q.1)

pub pow2-requires : goal.pow2-requires
pow2-requires c =
    let a = c.args in
    let G : Given = house_given a.n a.floor a.a.now a.b.now a.m.now a.us.now a.vs.now a.betas.now a.manner a.arrangement a.caller in
    let M : Bool = misfits (sums G) (length a.squares.now) (length a.fourths.now) in
    let j = c.in_ok-job.ensures in
    let p = all-house-passed j.ready a.betas.now a.caller _ _ most_counted M (length a.work.now) _ j.betas_pass.few c.in_ok-check_house_enumeration.ensures refl in
    omega (arith, p.2)

pub shape_of-squares-then-total_house_job : goal.shape_of-squares-then-total_house_job
shape_of-squares-then-total_house_job c = c.total_house_job.auto.squares

pub shape_of-fourths-then-total_house_job : goal.shape_of-fourths-then-total_house_job
shape_of-fourths-then-total_house_job c = c.total_house_job.auto.fourths

pub shape_of-work-then-total_house_job : goal.shape_of-work-then-total_house_job
shape_of-work-then-total_house_job c = c.total_house_job.auto.work

pub returns-then-total_house_job : goal.returns-then-total_house_job
returns-then-total_house_job c =
    let a = c.args in
    let G : Given = house_given a.n a.floor a.a.now a.b.now a.m.now a.us.now a.vs.now a.betas.now a.manner a.arrangement a.caller in
    let M : Bool = misfits (sums G) (length a.squares.now) (length a.fourths.now) in
    let j = c.in_ok-job.ensures in
    let is = free-kept j.ready _ c.number_free_edges-free.ensures.0 in
    let listed = all-housed j.ready a.betas.now a.caller _ _ c.takes_less-less.ensures _ _ most_counted M (length a.work.now) _ is c.in_ok-check_house_enumeration.ensures in
    let found =
    all_are a.n (window G) (early G) (late G) G.factors (manner_of a.manner) a.us.now a.vs.now (length a.betas.now) _ _ _ is c.all_chunks-chunks.result c.all_chunks-chunks.ensures
    (totals_housed j.ready a.betas.now c.is_elementwise-elementwise.ensures c.takes_less-less.ensures c.all_chunks-chunks.result c.total_house_job.ensures) in
    record {
      call = all-added (all_parts_by G house (all_couplings a.betas.now (kept_magnitudes a.a.now a.b.now a.m.now)) (length a.betas.now * length (kept_magnitudes a.a.now a.b.now a.m.now)) M (length a.work.now) most_counted) j.refusal listed found c.if-total_house_job.true c.pow2.result (c.pow2.ensures ∙ ap (λ (i : ℕ). 2 ^ i) is);
    }

pub shape_of-squares : goal.shape_of-squares
shape_of-squares c = c.total_house_job.auto.squares

pub shape_of-fourths : goal.shape_of-fourths
shape_of-fourths c = c.total_house_job.auto.fourths

pub shape_of-work : goal.shape_of-work
shape_of-work c = c.total_house_job.auto.work

pub returns : goal.returns
returns c =
    let a = c.args in
    let G : Given = house_given a.n a.floor a.a.now a.b.now a.m.now a.us.now a.vs.now a.betas.now a.manner a.arrangement a.caller in
    let M : Bool = misfits (sums G) (length a.squares.now) (length a.fourths.now) in
    let j = c.in_ok-job.ensures in
    let p = all-house-passed j.ready a.betas.now a.caller _ _ most_counted M (length a.work.now) _ j.betas_pass.few c.in_ok-check_house_enumeration.ensures refl in
    let q = fits_both (sums G) (length a.squares.now) (length a.fourths.now) p.1 in
    let is = free-kept j.ready _ c.number_free_edges-free.ensures.0 in
    let listed = all-housed j.ready a.betas.now a.caller _ _ c.takes_less-less.ensures _ _ most_counted M (length a.work.now) _ is c.in_ok-check_house_enumeration.ensures in
    let found =
    all_are a.n (window G) (early G) (late G) G.factors (manner_of a.manner) a.us.now a.vs.now (length a.betas.now) _ _ _ is c.all_chunks-chunks.result c.all_chunks-chunks.ensures
    (totals_housed j.ready a.betas.now c.is_elementwise-elementwise.ensures c.takes_less-less.ensures c.all_chunks-chunks.result c.total_house_job.ensures) in
    record { call = refused-14 (all_parts_by G house (all_couplings a.betas.now (kept_magnitudes a.a.now a.b.now a.m.now)) (length a.betas.now * length (kept_magnitudes a.a.now a.b.now a.m.now)) M (length a.work.now) most_counted) j.refusal listed found c.if-total_house_job.false q.0 q.1 }
