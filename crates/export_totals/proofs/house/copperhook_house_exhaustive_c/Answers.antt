-- The options that the number names, and what the answer that was told says.
use Rattle.export_totals.proofs.Told.{house-stored-told}
use Rattle.export_totals.proofs.house.copperhook_house_exhaustive_c.Goals as goal

pub returns : goal.returns
returns c = let both = (house-stored-told c.options_numbered-asked.ensures c.house_exhaustive_c-answer.ensures c.tell_number.ensures) in record { house_enumerated_each = both.0; count_unchanged = both.1 }
