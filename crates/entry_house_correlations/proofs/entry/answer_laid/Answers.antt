-- The factors are laid, and the job is answered with them.
use mathlib.Core.Path.{sym, subst}
use mathlib.Core.Bool.{cond}
use mathlib.Core.List.{List}
use lib.Ieee.{Float, nan}
use lib.ListN.{length}
use Rattle.transfer_matrix.specs.Job.{block, per_element}
use Rattle.transfer_matrix.specs.Configuration.{job_of}
use Rattle.transfer_matrix.specs.Room.{arranged}
use Rattle.job_run.specs.Passed.{JobPassed, JobFinished}
use Rattle.entry_house_correlations.proofs.entry.answer_laid.Goals as goal

pub answer_job-requires : goal.answer_job-requires
answer_job-requires c =
    let a = c.args in
    subst (λ (f : List Float). JobPassed (arranged a.less) a.n a.w a.early.now a.late.now a.us.now a.vs.now f (length a.results.now) (length a.work.now))
    (sym c.lay_single.ensures) c.requires.0

pub returns : goal.returns
returns c =
    let a = c.args in
    let r = c.answer_job in
    subst (λ (f : List Float). JobFinished (job_of nan a.n a.w a.early.now a.late.now f (cond a.elementwise per_element block)) (arranged a.less) a.n (length a.early.now)
    a.us.now a.vs.now r.result r.new.results a.work.now r.new.work) c.lay_single.ensures r.ensures
