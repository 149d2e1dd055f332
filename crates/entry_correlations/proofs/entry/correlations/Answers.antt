use mathlib.Core.Path.{sym, ◌∙◌}
use lib.ListN.{length}
use Rattle.std.proofs.lemmas.Result.{err_from_is_err_and}
use Rattle.kept_edges.proofs.Laws.Fronts.{early-part, late-part, early-fits, late-fits}
use Rattle.refusals.specs.Request.{lent}
use Rattle.refusals.proofs.Laws.Answers.{number-not_zero}
use Rattle.entry_correlations.proofs.Calling.{refused-early, refused-lists, accepted, refused-14, lists_of, passed-of, finished_of}
use Rattle.entry_correlations.proofs.entry.correlations.Goals as goal

pub returns-in_err-job : goal.returns-in_err-job
returns-in_err-job c =
    let p = err_from_is_err_and c.from_residual.result c.from_residual.ensures.1 in
    rw (p.1, p.2) (refused-early lent _ _ _ _ _ _ _ _ _ _ _ _ _ _ c.in_err-job.ensures.refusal (number-not_zero _))

pub check_lists-requires : goal.check_lists-requires
check_lists-requires c =
    let g = c.in_ok-job.ensures.ready in
    (g.pairs, g.edges.few, g.edges.narrow, g.few-edges)

pub returns-in_err-check_lists : goal.returns-in_err-check_lists
returns-in_err-check_lists c =
    let p = err_from_is_err_and c.from_residual-in_err-check_lists.result c.from_residual-in_err-check_lists.ensures.1 in
    let a = c.args in
    let j = c.in_ok-job.ensures in
    rw (p.1, p.2)
    (refused-lists lent _ _ _ _ _ _ _ _ _ _ _ _ _ _ j.refusal
    (c.in_err-check_lists.ensures ∙ lists_of j.ready lent _ _ c.takes_less-less.ensures a.factors.now (length a.results.now) (length a.work.now)) (number-not_zero _))

pub slice_bounds-early-end : goal.slice_bounds-early-end
slice_bounds-early-end c = early-fits c.in_ok-job.ensures.ready.written

pub slice_bounds-answer_job-end : goal.slice_bounds-answer_job-end
slice_bounds-answer_job-end c = early-part c.in_ok-job.ensures.ready.written

pub slice_bounds-late-end : goal.slice_bounds-late-end
slice_bounds-late-end c = late-fits c.in_ok-job.ensures.ready.written

pub slice_bounds-answer_job-end-2 : goal.slice_bounds-answer_job-end-2
slice_bounds-answer_job-end-2 c = late-part c.in_ok-job.ensures.ready.written

pub answer_job-requires : goal.answer_job-requires
answer_job-requires c = passed-of c.in_ok-job.ensures.ready _ _ _ _ (sym c.in_ok-check_lists.ensures)

pub returns-then-answer_job : goal.returns-then-answer_job
returns-then-answer_job c =
    let a = c.args in
    let j = c.in_ok-job.ensures in
    let g = j.ready in
    let z = c.in_ok-check_lists.ensures in
    let l = z ∙ lists_of g lent _ _ c.takes_less-less.ensures a.factors.now (length a.results.now) (length a.work.now) in
    let f = finished_of g _ _ c.takes_less-less.ensures a.factors.now a.manner c.is_elementwise-elementwise.result _ _ _ _ c.is_elementwise-elementwise.ensures c.answer_job.ensures in
    accepted lent _ _ _ _ _ _ _ _ _ a.arrangement a.caller a.results.now a.work.now j.refusal l _ _ (passed-of g _ a.factors.now (length a.results.now) (length a.work.now) (sym z)).fitting (rw c.if-answer_job.true at f)

pub returns : goal.returns
returns c =
    let a = c.args in
    let j = c.in_ok-job.ensures in
    let g = j.ready in
    let z = c.in_ok-check_lists.ensures in
    let l = z ∙ lists_of g lent _ _ c.takes_less-less.ensures a.factors.now (length a.results.now) (length a.work.now) in
    let f = finished_of g _ _ c.takes_less-less.ensures a.factors.now a.manner c.is_elementwise-elementwise.result _ _ _ _ c.is_elementwise-elementwise.ensures c.answer_job.ensures in
    refused-14 lent _ _ _ _ _ _ _ _ _ a.arrangement a.caller a.results.now a.work.now j.refusal l _ _ (passed-of g _ a.factors.now (length a.results.now) (length a.work.now) (sym z)).fitting (rw c.if-answer_job.false at f)
