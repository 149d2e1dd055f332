-- The checks, then the run, chunk after chunk.
use mathlib.Core.Path.{refl}
use mathlib.Core.Bool.{Bool}
use lib.ListN.{length}
use Rattle.std.proofs.lemmas.Result.{err_from_is_err_and}
use Rattle.transfer_matrix.specs.Room.{arranged}
use Rattle.refusals.specs.Edges.{kept}
use Rattle.refusals.specs.Request.{lent, signed_factors}
use Rattle.plan_layout.specs.Arrangements.{arrangement_of}
use Rattle.kept_edges.proofs.Laws.Fronts.{early-part, late-part, early-fits, late-fits}
use Rattle.totals_call.specs.Given.{Given}
use Rattle.run_record.specs.declared.Head.{Head}
use Rattle.run_record.specs.Records.{record_length}
use Rattle.record_checks.specs.Recording.{other_length}
use Rattle.record_call.specs.Calls.{lent_given, head_for}
use Rattle.record_call.proofs.Laws.Calling.{record_parts, refused-early, refused-lists, run_written, run_wiped}
use Rattle.record_call.proofs.Laws.Entering.{fits_record, lent-listed, lent-passed, record_kept}
use Rattle.entry_sample_record.proofs.entry.sample_record.Goals as goal

pub returns-in_err-job : goal.returns-in_err-job
returns-in_err-job c =
    let p = err_from_is_err_and c.from_residual.result c.from_residual.ensures.1 in
    let a = c.args in
    let G : Given = lent_given a.n a.floor a.a.now a.b.now a.m.now a.us.now a.vs.now a.betas.now a.factors.now a.manner a.arrangement in
    let P = record_parts G a.seed a.from a.to a.samples lent a.factors.now (signed_factors (length a.betas.now) (length (kept a.a.now a.b.now a.m.now))) (length a.bytes.now) (length a.work.now) in
    rw (p.1, p.2) (record { call = refused-early P _ c.in_err-job.ensures.refusal })

pub check_recording-requires : goal.check_recording-requires
check_recording-requires c =
    let j = c.in_ok-job.ensures in
    let g = j.ready in
    (g.pairs, g.edges.few, g.edges.narrow, g.few-edges, j.betas_pass.few, g.passed.few-pairs)

pub returns-in_err-check_recording : goal.returns-in_err-check_recording
returns-in_err-check_recording c =
    let p = err_from_is_err_and c.from_residual-in_err-check_recording.result c.from_residual-in_err-check_recording.ensures.1 in
    let a = c.args in
    let G : Given = lent_given a.n a.floor a.a.now a.b.now a.m.now a.us.now a.vs.now a.betas.now a.factors.now a.manner a.arrangement in
    let H : Head = head_for G a.seed a.from a.to a.samples in
    let M : Bool = other_length H (length a.bytes.now) in
    let P = record_parts G a.seed a.from a.to a.samples lent a.factors.now (signed_factors (length a.betas.now) (length (kept a.a.now a.b.now a.m.now))) (length a.bytes.now) (length a.work.now) in
    let k = c.in_ok-job.ensures in
    let less = c.takes_less-less in
    let listed =
    lent-listed k.ready (arranged less.result) (arrangement_of a.arrangement) less.ensures (length a.betas.now) a.factors.now a.from a.to a.samples M (length a.work.now) _ c.in_err-check_recording.ensures in
    rw (p.1, p.2) (record { call = refused-lists P k.refusal _ listed })

pub slice_bounds-early-end : goal.slice_bounds-early-end
slice_bounds-early-end c = early-fits c.in_ok-job.ensures.ready.written

pub slice_bounds-record_job-end : goal.slice_bounds-record_job-end
slice_bounds-record_job-end c = early-part c.in_ok-job.ensures.ready.written

pub slice_bounds-late-end : goal.slice_bounds-late-end
slice_bounds-late-end c = late-fits c.in_ok-job.ensures.ready.written

pub slice_bounds-record_job-end-2 : goal.slice_bounds-record_job-end-2
slice_bounds-record_job-end-2 c = late-part c.in_ok-job.ensures.ready.written

pub record_job-requires : goal.record_job-requires
record_job-requires c =
    let a = c.args in
    let G : Given = lent_given a.n a.floor a.a.now a.b.now a.m.now a.us.now a.vs.now a.betas.now a.factors.now a.manner a.arrangement in
    let H : Head = head_for G a.seed a.from a.to a.samples in
    let M : Bool = other_length H (length a.bytes.now) in
    let k = c.in_ok-job.ensures in
    let passed =
    lent-passed k.ready (arranged c.takes_less-less.result) (length a.betas.now) a.factors.now a.from a.to a.samples M (length a.work.now) 0 k.betas_pass.few c.in_ok-check_recording.ensures refl in
    (passed.0, refl, passed.2, fits_record H (length a.bytes.now) passed.1)

pub returns-then-record_job : goal.returns-then-record_job
returns-then-record_job c =
    let a = c.args in
    let G : Given = lent_given a.n a.floor a.a.now a.b.now a.m.now a.us.now a.vs.now a.betas.now a.factors.now a.manner a.arrangement in
    let H : Head = head_for G a.seed a.from a.to a.samples in
    let M : Bool = other_length H (length a.bytes.now) in
    let P = record_parts G a.seed a.from a.to a.samples lent a.factors.now (signed_factors (length a.betas.now) (length (kept a.a.now a.b.now a.m.now))) (length a.bytes.now) (length a.work.now) in
    let k = c.in_ok-job.ensures in
    let less = c.takes_less-less in
    let listed =
    lent-listed k.ready (arranged less.result) (arrangement_of a.arrangement) less.ensures (length a.betas.now) a.factors.now a.from a.to a.samples M (length a.work.now) 0 c.in_ok-check_recording.ensures in
    let t = c.record_job in
    let f =
    record_kept k.ready H c.is_elementwise-elementwise.ensures c.takes_less-less.ensures a.factors.now t.ensures in
    record { call = run_written P (record_length H) k.refusal listed f.verdict f.bytes_are f.memory c.if-record_job.true }

pub returns : goal.returns
returns c =
    let a = c.args in
    let G : Given = lent_given a.n a.floor a.a.now a.b.now a.m.now a.us.now a.vs.now a.betas.now a.factors.now a.manner a.arrangement in
    let H : Head = head_for G a.seed a.from a.to a.samples in
    let M : Bool = other_length H (length a.bytes.now) in
    let P = record_parts G a.seed a.from a.to a.samples lent a.factors.now (signed_factors (length a.betas.now) (length (kept a.a.now a.b.now a.m.now))) (length a.bytes.now) (length a.work.now) in
    let k = c.in_ok-job.ensures in
    let less = c.takes_less-less in
    let listed =
    lent-listed k.ready (arranged less.result) (arrangement_of a.arrangement) less.ensures (length a.betas.now) a.factors.now a.from a.to a.samples M (length a.work.now) 0 c.in_ok-check_recording.ensures in
    let passed =
    lent-passed k.ready (arranged c.takes_less-less.result) (length a.betas.now) a.factors.now a.from a.to a.samples M (length a.work.now) 0 k.betas_pass.few c.in_ok-check_recording.ensures refl in
    let t = c.record_job in
    let f =
    record_kept k.ready H c.is_elementwise-elementwise.ensures c.takes_less-less.ensures a.factors.now t.ensures in
    record { call = run_wiped P (record_length H) k.refusal listed f.verdict f.bytes_are f.memory c.if-record_job.false (fits_record H (length a.bytes.now) passed.1) }
