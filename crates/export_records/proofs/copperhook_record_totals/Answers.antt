-- The answer again, from its number and the count.
use Rattle.c_answers.proofs.Laws.Numbers.{told-again, told-refused}
use Rattle.export_records.proofs.copperhook_record_totals.Goals as goal

pub returns : goal.returns
returns c =
    let t = c.tell_number.ensures in
    let g = c.record_totals-answer.ensures in
    record { totalled = (c.record_totals-answer.result, told-again t, g); count_unchanged = told-refused _ _ g.answer t }
