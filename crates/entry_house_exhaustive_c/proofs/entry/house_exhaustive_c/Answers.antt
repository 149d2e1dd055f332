-- The checks, then every correlation.
use mathlib.Core.Path.{◌≡◌, refl, sym, ap, ◌∙◌}
use mathlib.Core.Bool.{Bool}
use Prim.Native.Nat.{ℕ, ◌*◌, ◌^◌}
use native.Mathlib.Omega.{arith}
use lib.ListN.{length}
use lib.Seq.{length-take-le}
use Rattle.std.proofs.lemmas.Result.{err_from_is_err_and}
use Rattle.refusals.specs.AcceptedTotals.{misfits}
use Rattle.refusals.specs.Couplings.{all_couplings}
use Rattle.refusals.specs.Edges.{kept_magnitudes}
use Rattle.refusals.specs.Request.{house, most_stored}
use Rattle.kept_edges.proofs.Laws.Fronts.{early-part, late-part, mag_part, early-fits, late-fits, mag_fits}
use Rattle.totals_call.specs.Given.{Given, early, late, sums}
use Rattle.totals_call.specs.Jobs.{stored_count}
use Rattle.totals_call.specs.Calls.{house_given, misfit_stored}
use Rattle.totals_call.proofs.Laws.Refusing.{all_parts_by}
use Rattle.totals_call.proofs.Laws.Calling.{refused-early, refused-lists, all-added, refused-14, once}
use Rattle.totals_call.proofs.Laws.Entering.{few-products, fits_both, front_fits, front-is, joined, free-kept}
use Rattle.totals_house_betas.proofs.Laws.Entering.{all-house-passed, stored-house-lists, stored-housed}
use Rattle.entry_house_exhaustive_c.proofs.entry.house_exhaustive_c.Goals as goal

pub returns-in_err-job : goal.returns-in_err-job
returns-in_err-job c =
    let p = err_from_is_err_and c.from_residual.result c.from_residual.ensures.1 in
    let a = c.args in
    let G : Given = house_given a.n a.floor a.a.now a.b.now a.m.now a.us.now a.vs.now a.betas.now a.manner a.arrangement a.caller in
    let M : Bool = misfit_stored G (length a.stored.now) in
    rw (p.1, p.2) (record { call = once (refused-early (all_parts_by G house (all_couplings a.betas.now (kept_magnitudes a.a.now a.b.now a.m.now)) (length a.betas.now * length (kept_magnitudes a.a.now a.b.now a.m.now)) M (length a.work.now) most_stored) _ c.in_err-job.ensures.refusal) })

pub slice_bounds-early-end : goal.slice_bounds-early-end
slice_bounds-early-end c = early-fits c.in_ok-job.ensures.ready.written

pub slice_bounds-number_free_edges-end : goal.slice_bounds-number_free_edges-end
slice_bounds-number_free_edges-end c = early-part c.in_ok-job.ensures.ready.written

pub slice_bounds-late-end : goal.slice_bounds-late-end
slice_bounds-late-end c = late-fits c.in_ok-job.ensures.ready.written

pub slice_bounds-number_free_edges-end-2 : goal.slice_bounds-number_free_edges-end-2
slice_bounds-number_free_edges-end-2 c = late-part c.in_ok-job.ensures.ready.written

pub slice_bounds-bits-end : goal.slice_bounds-bits-end
slice_bounds-bits-end c = c.in_ok-job.ensures.ready.few-edges

pub slice_bounds-number_free_edges-end-3 : goal.slice_bounds-number_free_edges-end-3
slice_bounds-number_free_edges-end-3 c = sym (length-take-le _ _ c.in_ok-job.ensures.ready.few-edges)

pub number_free_edges-free-requires : goal.number_free_edges-free-requires
number_free_edges-free-requires c = let g = c.in_ok-job.ensures.ready in (joined g, g.edges.few, length-take-le _ _ g.few-edges ∙ early-part g.written)

pub slice_bounds-mag-end : goal.slice_bounds-mag-end
slice_bounds-mag-end c = mag_fits c.in_ok-job.ensures.ready.written

pub slice_bounds-check_house_enumeration-end : goal.slice_bounds-check_house_enumeration-end
slice_bounds-check_house_enumeration-end c = mag_part c.in_ok-job.ensures.ready.written

pub overflow_mul-betas : goal.overflow_mul-betas
overflow_mul-betas c =
    let j = c.in_ok-job.ensures in
    omega (arith, few-products _ _ j.betas_pass.few j.ready.passed.few-pairs)

pub stored_count-requires : goal.stored_count-requires
stored_count-requires c =
    let j = c.in_ok-job.ensures in
    few-products _ _ j.betas_pass.few j.ready.passed.few-pairs

pub check_house_enumeration-requires : goal.check_house_enumeration-requires
check_house_enumeration-requires c =
    let j = c.in_ok-job.ensures in
    let g = j.ready in
    (g.pairs, g.edges.few, g.edges.narrow, omega (arith, g.few-edges, mag_part g.written))

pub returns-in_err-check_house_enumeration : goal.returns-in_err-check_house_enumeration
returns-in_err-check_house_enumeration c =
    let p = err_from_is_err_and c.from_residual-in_err-check_house_enumeration.result c.from_residual-in_err-check_house_enumeration.ensures.1 in
    let a = c.args in
    let G : Given = house_given a.n a.floor a.a.now a.b.now a.m.now a.us.now a.vs.now a.betas.now a.manner a.arrangement a.caller in
    let M : Bool = misfit_stored G (length a.stored.now) in
    let j = c.in_ok-job.ensures in
    let is = free-kept j.ready _ c.number_free_edges-free.ensures.0 in
    let listed =
    stored-house-lists j.ready a.betas.now a.caller _ _ c.takes_less-less.ensures _ _ _ (stored_count (early G) (late G) a.us.now (length a.betas.now)) (length a.stored.now) (length a.work.now) _ is
    (λ l. c.stored_count.ensures l ∙ ap (λ (i : ℕ). sums G * 2 ^ i) is) c.in_err-check_house_enumeration.ensures in
    rw (p.1, p.2) (record { call = once (refused-lists (all_parts_by G house (all_couplings a.betas.now (kept_magnitudes a.a.now a.b.now a.m.now)) (length a.betas.now * length (kept_magnitudes a.a.now a.b.now a.m.now)) M (length a.work.now) most_stored) j.refusal _ listed) })

pub slice_bounds-early-end-2 : goal.slice_bounds-early-end-2
slice_bounds-early-end-2 c = early-fits c.in_ok-job.ensures.ready.written

pub slice_bounds-store_house_job-end : goal.slice_bounds-store_house_job-end
slice_bounds-store_house_job-end c = early-part c.in_ok-job.ensures.ready.written

pub slice_bounds-late-end-2 : goal.slice_bounds-late-end-2
slice_bounds-late-end-2 c = late-fits c.in_ok-job.ensures.ready.written

pub slice_bounds-store_house_job-end-2 : goal.slice_bounds-store_house_job-end-2
slice_bounds-store_house_job-end-2 c = late-part c.in_ok-job.ensures.ready.written

pub slice_bounds-mag-end-2 : goal.slice_bounds-mag-end-2
slice_bounds-mag-end-2 c = mag_fits c.in_ok-job.ensures.ready.written

pub slice_bounds-store_house_job-end-3 : goal.slice_bounds-store_house_job-end-3
slice_bounds-store_house_job-end-3 c = mag_part c.in_ok-job.ensures.ready.written

pub slice_bounds-bits-end-2 : goal.slice_bounds-bits-end-2
slice_bounds-bits-end-2 c =
    let f = c.number_free_edges-free in
    front_fits f.new.bits _ (f.auto.bits ∙ length-take-le _ _ c.in_ok-job.ensures.ready.few-edges)

pub slice_bounds-store_house_job-end-4 : goal.slice_bounds-store_house_job-end-4
slice_bounds-store_house_job-end-4 c =
    let f = c.number_free_edges-free in
    sym (length-take-le _ _ (front_fits f.new.bits _ (f.auto.bits ∙ length-take-le _ _ c.in_ok-job.ensures.ready.few-edges)))

pub store_house_job-requires : goal.store_house_job-requires
store_house_job-requires c =
    let a = c.args in
    let G : Given = house_given a.n a.floor a.a.now a.b.now a.m.now a.us.now a.vs.now a.betas.now a.manner a.arrangement a.caller in
    let j = c.in_ok-job.ensures in
    let n = length a.stored.now in
    let w = c.stored_count in
    let p = all-house-passed j.ready a.betas.now a.caller _ _ most_stored (misfits w.result n n) (length a.work.now) _ j.betas_pass.few c.in_ok-check_house_enumeration.ensures refl in
    let q : n ≡ sums G * 2 ^ c.number_free_edges-free.result = (fits_both w.result n n p.1).0 ∙ w.ensures p.2 in
    let f = c.number_free_edges-free in
    let bits = front-is f.new.bits _ (f.auto.bits ∙ length-take-le _ _ j.ready.few-edges) ∙ f.ensures.1 in
    (p.0, f.ensures.0, omega (arith, p.2), bits, q)

pub pow2-requires : goal.pow2-requires
pow2-requires c =
    let a = c.args in
    let j = c.in_ok-job.ensures in
    let n = length a.stored.now in
    let w = c.stored_count in
    let p = all-house-passed j.ready a.betas.now a.caller _ _ most_stored (misfits w.result n n) (length a.work.now) _ j.betas_pass.few c.in_ok-check_house_enumeration.ensures refl in
    omega (arith, p.2)

pub shape_of-stored-then-store_house_job : goal.shape_of-stored-then-store_house_job
shape_of-stored-then-store_house_job c = c.store_house_job.auto.stored

pub shape_of-work-then-store_house_job : goal.shape_of-work-then-store_house_job
shape_of-work-then-store_house_job c = c.store_house_job.auto.work

pub returns-then-store_house_job : goal.returns-then-store_house_job
returns-then-store_house_job c =
    let a = c.args in
    let G : Given = house_given a.n a.floor a.a.now a.b.now a.m.now a.us.now a.vs.now a.betas.now a.manner a.arrangement a.caller in
    let M : Bool = misfit_stored G (length a.stored.now) in
    let j = c.in_ok-job.ensures in
    let is = free-kept j.ready _ c.number_free_edges-free.ensures.0 in
    let listed =
    stored-house-lists j.ready a.betas.now a.caller _ _ c.takes_less-less.ensures _ _ _ (stored_count (early G) (late G) a.us.now (length a.betas.now)) (length a.stored.now) (length a.work.now) _ is
    (λ l. c.stored_count.ensures l ∙ ap (λ (i : ℕ). sums G * 2 ^ i) is) c.in_ok-check_house_enumeration.ensures in
    let found = stored-housed j.ready a.betas.now c.is_elementwise-elementwise.ensures c.takes_less-less.ensures c.store_house_job.ensures in
    record { call = once (all-added (all_parts_by G house (all_couplings a.betas.now (kept_magnitudes a.a.now a.b.now a.m.now)) (length a.betas.now * length (kept_magnitudes a.a.now a.b.now a.m.now)) M (length a.work.now) most_stored) j.refusal listed found c.if-store_house_job.true c.pow2.result (c.pow2.ensures ∙ ap (λ (i : ℕ). 2 ^ i) is)) }

pub shape_of-stored : goal.shape_of-stored
shape_of-stored c = c.store_house_job.auto.stored

pub shape_of-work : goal.shape_of-work
shape_of-work c = c.store_house_job.auto.work

pub returns : goal.returns
returns c =
    let a = c.args in
    let G : Given = house_given a.n a.floor a.a.now a.b.now a.m.now a.us.now a.vs.now a.betas.now a.manner a.arrangement a.caller in
    let M : Bool = misfit_stored G (length a.stored.now) in
    let j = c.in_ok-job.ensures in
    let n = length a.stored.now in
    let w = c.stored_count in
    let p = all-house-passed j.ready a.betas.now a.caller _ _ most_stored (misfits w.result n n) (length a.work.now) _ j.betas_pass.few c.in_ok-check_house_enumeration.ensures refl in
    let q : n ≡ sums G * 2 ^ c.number_free_edges-free.result = (fits_both w.result n n p.1).0 ∙ w.ensures p.2 in
    let is = free-kept j.ready _ c.number_free_edges-free.ensures.0 in
    let listed =
    stored-house-lists j.ready a.betas.now a.caller _ _ c.takes_less-less.ensures _ _ _ (stored_count (early G) (late G) a.us.now (length a.betas.now)) (length a.stored.now) (length a.work.now) _ is
    (λ l. c.stored_count.ensures l ∙ ap (λ (i : ℕ). sums G * 2 ^ i) is) c.in_ok-check_house_enumeration.ensures in
    let found = stored-housed j.ready a.betas.now c.is_elementwise-elementwise.ensures c.takes_less-less.ensures c.store_house_job.ensures in
    record { call = once (refused-14 (all_parts_by G house (all_couplings a.betas.now (kept_magnitudes a.a.now a.b.now a.m.now)) (length a.betas.now * length (kept_magnitudes a.a.now a.b.now a.m.now)) M (length a.work.now) most_stored) j.refusal listed found c.if-store_house_job.false q q) }
