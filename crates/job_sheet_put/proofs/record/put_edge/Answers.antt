-- The kind and its three fields.
use native.Mathlib.Omega.{arith}
use lib.ListN.{length-set}
use Rattle.job_sheet_put.proofs.Laws.Records.{one_field, two_fields, edge_fields}
use Rattle.job_sheet_put.proofs.record.put_edge.Goals as goal

pub put_word-requires : goal.put_word-requires
put_word-requires c = simp length-set (omega arith)

pub put_word-requires-2 : goal.put_word-requires-2
put_word-requires-2 c =
    let w = c in
    let a = w.args in
    omega (arith, (one_field {l = a.sheet.now} a.place 2 2 a.a (omega arith) w.put_word.ensures).size)

pub put_word-requires-3 : goal.put_word-requires-3
put_word-requires-3 c =
    let w = c in
    let v = w in
    let a = v.args in
    omega (arith, (two_fields {l = a.sheet.now} a.place 2 a.a 2 a.b (omega arith) v.put_word.ensures w.put_word-2.ensures).size)

pub returns : goal.returns
returns c =
    let x = c in
    let w = x in
    let v = w in
    edge_fields _ _ _ _ (omega arith) v.put_word.ensures w.put_word-2.ensures x.put_word-3.ensures

pub shape_of-sheet : goal.shape_of-sheet
shape_of-sheet c = (returns c).size
