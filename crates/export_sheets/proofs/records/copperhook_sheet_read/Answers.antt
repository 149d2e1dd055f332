-- What the record that was told says.
use native.Mathlib.Omega.{arith}
use Rattle.export_sheets.proofs.Laws.Told.{next_fits}
use Rattle.export_sheets.proofs.records.copperhook_sheet_read.Goals as goal

pub tell_record-requires : goal.tell_record-requires
tell_record-requires c =
    let k = c in
    let a = k.args in
    let f = next_fits a.sheet.now a.place a.last _ k.read_record-answer.ensures in
    omega arith

pub returns : goal.returns
returns c = rw c.read_record-answer.ensures at c.tell_record.ensures
