-- A job that no check refuses has the room of its window and its kept edges.
use Rattle.std.proofs.lemmas.Result.{err_from_is_err_and}
use Rattle.job_checks.proofs.Checking.{room-answered}
use Rattle.job_checks.proofs.work.room.Goals as goal

pub returns-in_err-job : goal.returns-in_err-job
returns-in_err-job c =
    let p = err_from_is_err_and c.from_residual.result c.from_residual.ensures.1 in
    rw (p.1, p.2) (c.in_err-job.ensures.refusal, tt)

pub room_needed-requires : goal.room_needed-requires
room_needed-requires c =
    let job = c.in_ok-job.ensures.ready in
    (job.pairs, job.edges.few, job.edges.narrow, job.few-edges)

pub returns : goal.returns
returns c =
    room-answered c.in_ok-job.ensures _ _ c.takes_less-less.ensures _
    c.room_needed.ensures
