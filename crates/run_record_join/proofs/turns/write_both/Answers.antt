-- Three puts, one after another.
use native.Mathlib.Omega.{arith}
use Rattle.run_record_join.proofs.Laws.Copying.{written_by}
use Rattle.run_record_join.proofs.turns.write_both.Goals as goal

pub copy_behind-requires : goal.copy_behind-requires
copy_behind-requires c = (omega arith, omega arith)

pub put_word-requires : goal.put_word-requires
put_word-requires c = omega arith

pub copy_behind-requires-2 : goal.copy_behind-requires-2
copy_behind-requires-2 c = (omega arith, omega arith)

pub returns : goal.returns
returns c = let a = c.args in written_by a.earlier.now a.later.now a.end a.joined.now _ _ _ c.copy_behind.ensures c.put_word.ensures c.copy_behind-2.ensures
