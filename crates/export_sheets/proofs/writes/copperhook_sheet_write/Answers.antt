-- What the length that was told says.
use Rattle.export_sheets.proofs.Laws.Told.{sheet-told}
use Rattle.export_sheets.proofs.writes.copperhook_sheet_write.Goals as goal

pub returns : goal.returns
returns c = let both = sheet-told c.sheet_write-answer.ensures c.tell_number.ensures in record { value = both.0; sheet_after = both.1.0; bytes_after = both.1.1 }
