-- The checks, then the run, chunk after chunk.
use mathlib.Core.Path.{refl}
use mathlib.Core.Bool.{Bool}
use mathlib.Core.List.{List}
use Prim.Native.Nat.{ℕ, ◌*◌}
use native.Mathlib.Omega.{arith}
use lib.Ieee.{Float}
use lib.ListN.{length}
use Rattle.std.proofs.lemmas.Result.{err_from_is_err_and}
use Rattle.limits.specs.declared.Caller.TheVariants.{Desk}
use Rattle.transfer_matrix.specs.Room.{arranged}
use Rattle.refusals.specs.Couplings.{all_couplings}
use Rattle.refusals.specs.Edges.{kept_magnitudes}
use Rattle.refusals.specs.Request.{house}
use Rattle.plan_layout.specs.Arrangements.{arrangement_of}
use Rattle.kept_edges.proofs.Laws.Fronts.{early-part, late-part, mag_part, early-fits, late-fits, mag_fits}
use Rattle.totals_call.specs.Given.{Given}
use Rattle.totals_call.specs.Calls.{house_given}
use Rattle.run_record.specs.declared.Head.{Head}
use Rattle.run_record.specs.Records.{record_length}
use Rattle.record_checks.specs.Recording.{other_length}
use Rattle.record_call.specs.Calls.{head_for}
use Rattle.record_call.proofs.Laws.Calling.{record_parts, refused-early, refused-lists, run_written, run_wiped}
use Rattle.record_call.proofs.Laws.Entering.{fits_record, house-listed, house-passed, record_housed}
use Rattle.entry_house_sample_record.proofs.entry.house_sample_record.Goals as goal

pub returns-in_err-job : goal.returns-in_err-job
returns-in_err-job c =
    let p = err_from_is_err_and c.from_residual.result c.from_residual.ensures.1 in
    let a = c.args in
    let G : Given = house_given a.n a.floor a.a.now a.b.now a.m.now a.us.now a.vs.now a.betas.now a.manner a.arrangement Desk in
    let C : List Float = all_couplings a.betas.now (kept_magnitudes a.a.now a.b.now a.m.now) in
    let N : ℕ = length a.betas.now * length (kept_magnitudes a.a.now a.b.now a.m.now) in
    let P = record_parts G a.seed a.from a.to a.samples house C N (length a.bytes.now) (length a.work.now) in
    rw (p.1, p.2) (record { call = refused-early P _ c.in_err-job.ensures.refusal })

pub slice_bounds-mag-end : goal.slice_bounds-mag-end
slice_bounds-mag-end c = mag_fits c.in_ok-job.ensures.ready.written

pub slice_bounds-check_house_recording-end : goal.slice_bounds-check_house_recording-end
slice_bounds-check_house_recording-end c = mag_part c.in_ok-job.ensures.ready.written

pub check_house_recording-requires : goal.check_house_recording-requires
check_house_recording-requires c =
    let j = c.in_ok-job.ensures in
    let g = j.ready in
    (g.pairs, g.edges.few, g.edges.narrow, omega (arith, g.few-edges, mag_part g.written), j.betas_pass.few, g.passed.few-pairs)

pub returns-in_err-check_house_recording : goal.returns-in_err-check_house_recording
returns-in_err-check_house_recording c =
    let p = err_from_is_err_and c.from_residual-in_err-check_house_recording.result c.from_residual-in_err-check_house_recording.ensures.1 in
    let a = c.args in
    let G : Given = house_given a.n a.floor a.a.now a.b.now a.m.now a.us.now a.vs.now a.betas.now a.manner a.arrangement Desk in
    let H : Head = head_for G a.seed a.from a.to a.samples in
    let M : Bool = other_length H (length a.bytes.now) in
    let C : List Float = all_couplings a.betas.now (kept_magnitudes a.a.now a.b.now a.m.now) in
    let N : ℕ = length a.betas.now * length (kept_magnitudes a.a.now a.b.now a.m.now) in
    let P = record_parts G a.seed a.from a.to a.samples house C N (length a.bytes.now) (length a.work.now) in
    let k = c.in_ok-job.ensures in
    let less = c.takes_less-less in
    let listed =
    house-listed k.ready a.betas.now (arranged less.result) (arrangement_of a.arrangement) less.ensures a.from a.to a.samples M (length a.work.now) _ c.in_err-check_house_recording.ensures in
    rw (p.1, p.2) (record { call = refused-lists P k.refusal _ listed })

pub slice_bounds-early-end : goal.slice_bounds-early-end
slice_bounds-early-end c = early-fits c.in_ok-job.ensures.ready.written

pub slice_bounds-record_house_job-end : goal.slice_bounds-record_house_job-end
slice_bounds-record_house_job-end c = early-part c.in_ok-job.ensures.ready.written

pub slice_bounds-late-end : goal.slice_bounds-late-end
slice_bounds-late-end c = late-fits c.in_ok-job.ensures.ready.written

pub slice_bounds-record_house_job-end-2 : goal.slice_bounds-record_house_job-end-2
slice_bounds-record_house_job-end-2 c = late-part c.in_ok-job.ensures.ready.written

pub slice_bounds-mag-end-2 : goal.slice_bounds-mag-end-2
slice_bounds-mag-end-2 c = mag_fits c.in_ok-job.ensures.ready.written

pub slice_bounds-record_house_job-end-3 : goal.slice_bounds-record_house_job-end-3
slice_bounds-record_house_job-end-3 c = mag_part c.in_ok-job.ensures.ready.written

pub record_house_job-requires : goal.record_house_job-requires
record_house_job-requires c =
    let a = c.args in
    let G : Given = house_given a.n a.floor a.a.now a.b.now a.m.now a.us.now a.vs.now a.betas.now a.manner a.arrangement Desk in
    let H : Head = head_for G a.seed a.from a.to a.samples in
    let M : Bool = other_length H (length a.bytes.now) in
    let k = c.in_ok-job.ensures in
    let passed =
    house-passed k.ready a.betas.now (arranged c.takes_less-less.result) a.from a.to a.samples M (length a.work.now) 0 k.betas_pass.few c.in_ok-check_house_recording.ensures refl in
    (passed.0, refl, refl, passed.2, fits_record H (length a.bytes.now) passed.1)

pub returns-then-record_house_job : goal.returns-then-record_house_job
returns-then-record_house_job c =
    let a = c.args in
    let G : Given = house_given a.n a.floor a.a.now a.b.now a.m.now a.us.now a.vs.now a.betas.now a.manner a.arrangement Desk in
    let H : Head = head_for G a.seed a.from a.to a.samples in
    let M : Bool = other_length H (length a.bytes.now) in
    let C : List Float = all_couplings a.betas.now (kept_magnitudes a.a.now a.b.now a.m.now) in
    let N : ℕ = length a.betas.now * length (kept_magnitudes a.a.now a.b.now a.m.now) in
    let P = record_parts G a.seed a.from a.to a.samples house C N (length a.bytes.now) (length a.work.now) in
    let k = c.in_ok-job.ensures in
    let less = c.takes_less-less in
    let listed =
    house-listed k.ready a.betas.now (arranged less.result) (arrangement_of a.arrangement) less.ensures a.from a.to a.samples M (length a.work.now) 0 c.in_ok-check_house_recording.ensures in
    let t = c.record_house_job in
    let f =
    record_housed k.ready H c.is_elementwise-elementwise.ensures c.takes_less-less.ensures a.betas.now t.ensures in
    record { call = run_written P (record_length H) k.refusal listed f.verdict f.bytes_are f.memory c.if-record_house_job.true }

pub returns : goal.returns
returns c =
    let a = c.args in
    let G : Given = house_given a.n a.floor a.a.now a.b.now a.m.now a.us.now a.vs.now a.betas.now a.manner a.arrangement Desk in
    let H : Head = head_for G a.seed a.from a.to a.samples in
    let M : Bool = other_length H (length a.bytes.now) in
    let C : List Float = all_couplings a.betas.now (kept_magnitudes a.a.now a.b.now a.m.now) in
    let N : ℕ = length a.betas.now * length (kept_magnitudes a.a.now a.b.now a.m.now) in
    let P = record_parts G a.seed a.from a.to a.samples house C N (length a.bytes.now) (length a.work.now) in
    let k = c.in_ok-job.ensures in
    let less = c.takes_less-less in
    let listed =
    house-listed k.ready a.betas.now (arranged less.result) (arrangement_of a.arrangement) less.ensures a.from a.to a.samples M (length a.work.now) 0 c.in_ok-check_house_recording.ensures in
    let passed =
    house-passed k.ready a.betas.now (arranged c.takes_less-less.result) a.from a.to a.samples M (length a.work.now) 0 k.betas_pass.few c.in_ok-check_house_recording.ensures refl in
    let t = c.record_house_job in
    let f =
    record_housed k.ready H c.is_elementwise-elementwise.ensures c.takes_less-less.ensures a.betas.now t.ensures in
    record { call = run_wiped P (record_length H) k.refusal listed f.verdict f.bytes_are f.memory c.if-record_house_job.false (fits_record H (length a.bytes.now) passed.1) }
