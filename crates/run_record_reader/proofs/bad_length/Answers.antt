-- No row, too few bytes, or the product, which they then hold.
use native.Mathlib.Omega.{arith}
use Prim.Native.Nat.{◌*◌, ◌-◌}
use Rattle.run_record.proofs.Laws.Places.{quotient-bounds}
use Rattle.run_record.proofs.Laws.Cases.{no_row, past, by_product}
use Rattle.run_record_reader.proofs.bad_length.Goals as goal

pub returns-then-per-eq0 : goal.returns-then-per-eq0
returns-then-per-eq0 c = let a = c.args in no_row a.bytes a.chunks a.per (omega arith) c.if-per-eq0.true

pub returns-then-rows-per : goal.returns-then-rows-per
returns-then-rows-per c = let a = c.args in past a.bytes a.chunks a.per (omega arith) (omega arith) c.if-rows-per.true

pub overflow_mul-result : goal.overflow_mul-result
overflow_mul-result c =
    let a = c.args in
    let q = quotient-bounds (a.bytes - 32) (28 * a.per) a.chunks (omega arith) c.if-rows-per.false in
    omega arith

pub overflow_mul-result-2 : goal.overflow_mul-result-2
overflow_mul-result-2 c =
    let a = c.args in
    let q = quotient-bounds (a.bytes - 32) (28 * a.per) a.chunks (omega arith) c.if-rows-per.false in
    omega arith

pub returns : goal.returns
returns c = let a = c.args in by_product a.bytes a.chunks a.per (omega arith)
