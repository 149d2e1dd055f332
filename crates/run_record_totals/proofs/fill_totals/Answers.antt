use borrow.Author.Rules.{rules}
use native.Mathlib.Omega.{arith}
use mathlib.Core.Path.{refl}
use lib.ListN.{length}
use Rattle.little_endian.proofs.Laws.Loaded.{loaded_none, loaded_more, loaded_length, loaded_all}
use Rattle.run_record_totals.specs.Totals.{column_sum}
use Rattle.run_record_totals.proofs.fill_totals.Goals as goal

pub loop-k-init : goal.loop-k-init
loop-k-init c = (loaded_none _ _, omega arith, refl)

pub column_sum-requires : goal.column_sum-requires
column_sum-requires c = search rules

pub loop-k-preserved : goal.loop-k-preserved
loop-k-preserved c =
    let l = c.loop-k in
    let a = c.args in
    let next = loaded_more (column_sum a.bytes.now (length a.totals.now) a.chunks a.offset) a.totals.now _ _ _ (omega arith) l.invariant.0 c.column_sum.ensures in
    (next, omega arith, loaded_length _ _ _ _ (omega arith) next)

pub shape_of-totals : goal.shape_of-totals
shape_of-totals c = c.loop-k.invariant.2

pub returns : goal.returns
returns c =
    let a = c.args in
    loaded_all (column_sum a.bytes.now (length a.totals.now) a.chunks a.offset) a.totals.now _ _ (omega arith) c.loop-k.invariant.0
