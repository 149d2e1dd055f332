-- The jobs left are those of the range.
use Rattle.std.proofs.Common.{◌≡◌, ◌+◌}
use Rattle.replay_correlations.proofs.job.replay_all.Given as goal

abbrev pub invariant-loop-job : goal.invariant-loop-job
invariant-loop-job l = l.progress.left + l._job ≡ l._job-end
