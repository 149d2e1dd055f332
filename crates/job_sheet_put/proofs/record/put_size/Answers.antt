-- The kind and its two fields.
use native.Mathlib.Omega.{arith}
use lib.ListN.{length-set}
use Rattle.job_sheet_put.proofs.Laws.Records.{one_field, two_fields}
use Rattle.job_sheet_put.proofs.record.put_size.Goals as goal

pub put_word-requires : goal.put_word-requires
put_word-requires c = simp length-set (omega arith)

pub put_word-requires-2 : goal.put_word-requires-2
put_word-requires-2 c =
    let w = c in
    let a = w.args in
    omega (arith, (one_field {l = a.sheet.now} 0 1 2 a.n (omega arith) w.put_word.ensures).size)

pub returns : goal.returns
returns c =
    let w = c in
    let v = w in
    two_fields _ _ _ _ _ (omega arith) v.put_word.ensures w.put_word-2.ensures

pub shape_of-sheet : goal.shape_of-sheet
shape_of-sheet c = (returns c).size
