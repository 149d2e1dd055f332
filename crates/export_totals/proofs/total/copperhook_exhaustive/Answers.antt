-- The options that the number names, and what the answer that was told says.
use Rattle.export_totals.proofs.Told.{enumerated-told}
use Rattle.export_totals.proofs.total.copperhook_exhaustive.Goals as goal

pub returns : goal.returns
returns c = let both = (enumerated-told c.options_numbered-asked.ensures c.exhaustive-answer.ensures c.tell_number.ensures) in record { enumerated = both.0; count_unchanged = both.1 }
