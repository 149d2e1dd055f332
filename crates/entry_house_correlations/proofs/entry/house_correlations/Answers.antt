use mathlib.Core.Path.{refl, sym, ◌∙◌}
use lib.ListN.{length}
use lib.Seq.{length-take-le}
use Rattle.house_factors.specs.Factors.{single_factors}
use Rattle.std.proofs.lemmas.Result.{err_from_is_err_and}
use Rattle.kept_edges.proofs.Laws.Fronts.{early-part, late-part, early-fits, late-fits}
use Rattle.refusals.specs.Request.{house}
use Rattle.refusals.proofs.Laws.Answers.{number-not_zero}
use Rattle.entry_correlations.proofs.Calling.{refused-early, refused-lists, accepted, refused-14, lists_of, finished_of}
use Rattle.entry_house_correlations.proofs.Laying.{housed-of, job-passed}
use Rattle.entry_house_correlations.proofs.entry.house_correlations.Goals as goal

pub returns-in_err-job : goal.returns-in_err-job
returns-in_err-job c =
    let p = err_from_is_err_and c.from_residual.result c.from_residual.ensures.1 in
    rw (p.1, p.2) (refused-early house _ _ _ _ _ _ _ _ _ _ _ _ _ _ c.in_err-job.ensures.refusal (number-not_zero _))

pub check_house_lists-requires : goal.check_house_lists-requires
check_house_lists-requires c =
    let g = c.in_ok-job.ensures.ready in
    (g.pairs, g.edges.few, g.edges.narrow, g.few-edges)

pub returns-in_err-check_house_lists : goal.returns-in_err-check_house_lists
returns-in_err-check_house_lists c =
    let p = err_from_is_err_and c.from_residual-in_err-check_house_lists.result c.from_residual-in_err-check_house_lists.ensures.1 in
    let a = c.args in
    let j = c.in_ok-job.ensures in
    rw (p.1, p.2)
    (refused-lists house _ _ _ _ _ _ _ _ _ _ _ _ _ _ j.refusal
    (c.in_err-check_house_lists.ensures ∙ lists_of j.ready house _ _ c.takes_less-less.ensures a.couplings.now (length a.results.now) (length a.work.now)) (number-not_zero _))

pub slice_bounds-early-end : goal.slice_bounds-early-end
slice_bounds-early-end c = early-fits c.in_ok-job.ensures.ready.written

pub slice_bounds-answer_laid-end : goal.slice_bounds-answer_laid-end
slice_bounds-answer_laid-end c = early-part c.in_ok-job.ensures.ready.written

pub slice_bounds-late-end : goal.slice_bounds-late-end
slice_bounds-late-end c = late-fits c.in_ok-job.ensures.ready.written

pub slice_bounds-answer_laid-end-2 : goal.slice_bounds-answer_laid-end-2
slice_bounds-answer_laid-end-2 c = late-part c.in_ok-job.ensures.ready.written

pub slice_bounds-factors-end : goal.slice_bounds-factors-end
slice_bounds-factors-end c = c.in_ok-job.ensures.ready.few-edges

pub slice_bounds-answer_laid-end-3 : goal.slice_bounds-answer_laid-end-3
slice_bounds-answer_laid-end-3 c = sym (length-take-le _ _ c.in_ok-job.ensures.ready.few-edges)

pub answer_laid-requires : goal.answer_laid-requires
answer_laid-requires c =
    let h = housed-of _ _ _ _ _ _ _ _ _ (sym c.in_ok-check_house_lists.ensures) in
    let g = c.in_ok-job.ensures.ready in
    (job-passed g _ _ c.args.couplings.now _ _ refl h, length-take-le _ _ g.few-edges ∙ sym h.count, h.on_grid)

pub returns-then-answer_laid : goal.returns-then-answer_laid
returns-then-answer_laid c =
    let a = c.args in
    let j = c.in_ok-job.ensures in
    let g = j.ready in
    let z = c.in_ok-check_house_lists.ensures in
    let l = z ∙ lists_of g house _ _ c.takes_less-less.ensures a.couplings.now (length a.results.now) (length a.work.now) in
    let f = finished_of g _ _ c.takes_less-less.ensures (single_factors a.couplings.now) a.manner c.is_elementwise-elementwise.result _ _ _ _ c.is_elementwise-elementwise.ensures c.answer_laid.ensures in
    accepted house _ _ _ _ _ _ _ _ _ a.arrangement a.caller a.results.now a.work.now j.refusal l _ _ (housed-of _ _ _ _ _ _ _ _ _ (sym z)).fitting (rw c.if-answer_laid.true at f)

pub returns : goal.returns
returns c =
    let a = c.args in
    let j = c.in_ok-job.ensures in
    let g = j.ready in
    let z = c.in_ok-check_house_lists.ensures in
    let l = z ∙ lists_of g house _ _ c.takes_less-less.ensures a.couplings.now (length a.results.now) (length a.work.now) in
    let f = finished_of g _ _ c.takes_less-less.ensures (single_factors a.couplings.now) a.manner c.is_elementwise-elementwise.result _ _ _ _ c.is_elementwise-elementwise.ensures c.answer_laid.ensures in
    refused-14 house _ _ _ _ _ _ _ _ _ a.arrangement a.caller a.results.now a.work.now j.refusal l _ _ (housed-of _ _ _ _ _ _ _ _ _ (sym z)).fitting (rw c.if-answer_laid.false at f)
