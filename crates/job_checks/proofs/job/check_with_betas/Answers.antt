-- Past the end no magnitude is dropped.
use Rattle.refusals.proofs.Laws.Dropping.{dropping-none}
use Rattle.job_checks.proofs.job.check_with_betas.Goals as goal

pub returns : goal.returns
returns c = rw (dropping-none c.args.m.now) at c.check_dropping.ensures
