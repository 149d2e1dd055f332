-- A job that 1 to 7 pass, then its factors and the bound.
use Rattle.std.proofs.lemmas.Result.{err_from_is_err_and}
use Rattle.refusals.proofs.Laws.Answers.{number-not_zero}
use mathlib.Core.Path.{refl}
use Rattle.kept_edges.proofs.Laws.Fronts.{front-early, front-late, early-part, late-part, early-fits, late-fits}
use Rattle.error_bound.proofs.Laws.Parts.{refused, answered}
use Rattle.error_bound.proofs.entry.bound_job.Goals as goal

pub returns-in_err-job : goal.returns-in_err-job
returns-in_err-job c =
    let p = err_from_is_err_and c.from_residual.result c.from_residual.ensures.1 in
    let x = c.args in
    rw (p.1, p.2) (refused x.n x.floor x.a.now x.b.now x.m.now x.betas.now x.factors.now x.signed c.in_err-job.ensures.refusal (number-not_zero _))

pub factor_count-count-requires : goal.factor_count-count-requires
factor_count-count-requires c =
    let j = c.in_ok-job.ensures in
    (j.betas_pass.few, j.ready.few-edges)

pub slice_bounds-early-end : goal.slice_bounds-early-end
slice_bounds-early-end c = early-fits c.in_ok-job.ensures.ready.written

pub slice_bounds-bound_kept-end : goal.slice_bounds-bound_kept-end
slice_bounds-bound_kept-end c = early-part c.in_ok-job.ensures.ready.written

pub slice_bounds-late-end : goal.slice_bounds-late-end
slice_bounds-late-end c = late-fits c.in_ok-job.ensures.ready.written

pub slice_bounds-bound_kept-end-2 : goal.slice_bounds-bound_kept-end-2
slice_bounds-bound_kept-end-2 c = late-part c.in_ok-job.ensures.ready.written

pub bound_kept-requires : goal.bound_kept-requires
bound_kept-requires c =
    let g = c.in_ok-job.ensures.ready in
    rw (front-early g.written, front-late g.written) (g.edges, g.near)

pub returns : goal.returns
returns c =
    let j = c.in_ok-job.ensures in
    let g = j.ready in
    let x = c.args in
    answered x.n x.floor x.a.now x.b.now x.m.now x.betas.now x.factors.now x.signed j.refusal refl g.window g.written.edges c.factor_count-count.ensures (front-early g.written) (front-late g.written) c.bound_kept.ensures
