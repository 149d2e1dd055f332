-- The options that the number names, and what the answer that was told says.
use Rattle.export_totals.proofs.Told.{stored-told}
use Rattle.export_totals.proofs.total.copperhook_exhaustive_c.Goals as goal

pub returns : goal.returns
returns c = let both = (stored-told c.options_numbered-asked.ensures c.exhaustive_c-answer.ensures c.tell_number.ensures) in record { enumerated_each = both.0; count_unchanged = both.1 }
