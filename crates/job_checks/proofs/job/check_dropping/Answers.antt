-- The checks of the graph and the betas, and of its kept edges at the fronts of the lists.
use Rattle.std.proofs.lemmas.Result.{err_from_is_err_and}
use Rattle.job_checks.proofs.Checking.{job-refused, graph-accepted}
use Rattle.kept_edges.proofs.Laws.Fronts.{is-accepted, kept_fronts}
use mathlib.Core.Path.{sym, refl}
use Rattle.job_checks.proofs.job.check_dropping.Goals as goal

pub returns-in_err-edges : goal.returns-in_err-edges
returns-in_err-edges c =
    let p = err_from_is_err_and c.from_residual.result c.from_residual.ensures.1 in
    rw (p.1, p.2) (job-refused _ _ _ _ _ _ _ _ _ c.in_err-edges.ensures refl)

pub check_kept-requires : goal.check_kept-requires
check_kept-requires c =
    let graph = c.in_ok-edges.ensures in
    (kept_fronts graph refl, sym (is-accepted graph refl).1.matched)

pub returns : goal.returns
returns c = graph-accepted _ _ _ _ _ _ _ _ _ c.in_ok-edges.ensures refl c.check_kept.ensures
