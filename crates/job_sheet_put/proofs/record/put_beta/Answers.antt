-- The kind and its field.
use native.Mathlib.Omega.{arith}
use lib.ListN.{length-set}
use Rattle.job_sheet_put.proofs.Laws.Records.{one_field}
use Rattle.job_sheet_put.proofs.record.put_beta.Goals as goal

pub put_word-requires : goal.put_word-requires
put_word-requires c = simp length-set (omega arith)

pub returns : goal.returns
returns c = one_field _ _ _ _ (omega arith) c.put_word.ensures

pub shape_of-sheet : goal.shape_of-sheet
shape_of-sheet c = (returns c).size
