-- What the preview costs, in the arrangement that the options name.
use Rattle.export_jobs.proofs.previews.copperhook_preview.Goals as goal

pub returns : goal.returns
returns c = rw c.arrangement_in.ensures at (c.tell_preview.ensures _ c.preview-answer.ensures)
