use native.Mathlib.Omega.{arith}
use mathlib.Core.Path.{◌≡◌, ap, ◌∙◌}
use Prim.Native.Nat.{◌+◌, ◌*◌, ◌<◌}
use Rattle.run_record_totals.specs.Totals.{column_sum}
use Rattle.run_record_totals.proofs.Laws.Columns.{column-none, column-more, row_in}
use Rattle.run_record_totals.proofs.column_sum.Goals as goal

pub loop-c-init : goal.loop-c-init
loop-c-init c = (omega arith, column-none _ _ _ _)

pub overflow_mul-c : goal.overflow_mul-c
overflow_mul-c c = record { fits = omega (arith, (let it : (let a = c.args in c.loop-c.c * a.per + a.k < a.chunks * a.per) = let a = c.args in row_in a.chunks a.per c.loop-c.c a.k (omega arith) (omega arith) in it)) }

pub overflow_add-c : goal.overflow_add-c
overflow_add-c c = record { fits = omega (arith, (let it : (let a = c.args in c.loop-c.c * a.per + a.k < a.chunks * a.per) = let a = c.args in row_in a.chunks a.per c.loop-c.c a.k (omega arith) (omega arith) in it)) }

pub overflow_mul-c-in-loop-c : goal.overflow_mul-c-in-loop-c
overflow_mul-c-in-loop-c c = record { fits = omega (arith, (let it : (let a = c.args in c.loop-c.c * a.per + a.k < a.chunks * a.per) = let a = c.args in row_in a.chunks a.per c.loop-c.c a.k (omega arith) (omega arith) in it)) }

pub overflow_add-c-in-loop-c : goal.overflow_add-c-in-loop-c
overflow_add-c-in-loop-c c = record { fits = omega (arith, (let it : (let a = c.args in c.loop-c.c * a.per + a.k < a.chunks * a.per) = let a = c.args in row_in a.chunks a.per c.loop-c.c a.k (omega arith) (omega arith) in it)) }

pub overflow_add-c-in-loop-c-2 : goal.overflow_add-c-in-loop-c-2
overflow_add-c-in-loop-c-2 c = record { fits = omega (arith, (let it : (let a = c.args in c.loop-c.c * a.per + a.k < a.chunks * a.per) = let a = c.args in row_in a.chunks a.per c.loop-c.c a.k (omega arith) (omega arith) in it)) }

pub double_at-total-requires : goal.double_at-total-requires
double_at-total-requires c = omega (arith, (let it : (let a = c.args in c.loop-c.c * a.per + a.k < a.chunks * a.per) = let a = c.args in row_in a.chunks a.per c.loop-c.c a.k (omega arith) (omega arith) in it))

pub loop-c-preserved : goal.loop-c-preserved
loop-c-preserved c =
    let a = c.args in
    (omega arith, column-more a.bytes.now a.per a.offset a.k c.loop-c.c _ _ c.loop-c.invariant.1 c.double_at-total.ensures)

pub returns : goal.returns
returns c =
    let a = c.args in
    let e : c.loop-c.c ≡ a.chunks = omega arith in
    c.loop-c.invariant.1 ∙ ap (λ n. column_sum a.bytes.now a.per n a.offset a.k) e
