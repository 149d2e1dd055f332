-- The figures go out, or nothing does.
use Rattle.export_jobs.proofs.Telling.{told-figures, told-refusal}
use Rattle.export_jobs.proofs.previews.tell_preview.Goals as goal

pub returns-in-Ok : goal.returns-in-Ok
returns-in-Ok c = λ k costs. told-figures k _ _ _ _ (rw c.in-Ok.is at costs)

pub returns-in-Err : goal.returns-in-Err
returns-in-Err c = λ k costs. rw c.number.ensures (told-refusal k _ _ _ _ (rw c.in-Err.is at costs))
