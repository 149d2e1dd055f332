-- What the job that was told says.
use Rattle.export_sheets.proofs.Laws.Told.{job-told}
use Rattle.export_sheets.proofs.jobs.copperhook_sheet_job.Goals as goal

pub returns : goal.returns
returns c =
    let k = c in
    job-told k.sheet_job-job.ensures c.tell_job.ensures
