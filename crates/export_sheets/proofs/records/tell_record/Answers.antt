-- The parts of each kind.
use mathlib.Core.Path.{refl}
use native.Mathlib.Omega.{arith}
use Rattle.export_sheets.proofs.records.tell_record.Goals as goal

pub overflow_add-next : goal.overflow_add-next
overflow_add-next c =
    let at = c.in-Ok-Size in
    omega (arith, rw (at.is, rw at.is at at.field-0-is) at c.requires)

pub overflow_add-next-in-Ok-Edge : goal.overflow_add-next-in-Ok-Edge
overflow_add-next-in-Ok-Edge c =
    let at = c.in-Ok-Edge in
    omega (arith, rw (at.is, rw at.is at at.field-0-is) at c.requires)

pub overflow_add-next-in-Ok-Beta : goal.overflow_add-next-in-Ok-Beta
overflow_add-next-in-Ok-Beta c =
    let at = c.in-Ok-Beta in
    omega (arith, rw (at.is, rw at.is at at.field-0-is) at c.requires)

pub overflow_add-next-in-Ok-Pair : goal.overflow_add-next-in-Ok-Pair
overflow_add-next-in-Ok-Pair c =
    let at = c.in-Ok-Pair in
    omega (arith, rw (at.is, rw at.is at at.field-0-is) at c.requires)

pub overflow_add-next-in-Ok-End : goal.overflow_add-next-in-Ok-End
overflow_add-next-in-Ok-End c =
    let at = c.in-Ok-End in
    omega (arith, rw (at.is, rw at.is at at.field-0-is) at c.requires)

pub returns-in-Ok-Size : goal.returns-in-Ok-Size
returns-in-Ok-Size c =
    let at = c.in-Ok-Size in
    rw (at.is, rw at.is at at.field-0-is) record { number = refl; kinds = refl; nexts = refl; firsts = refl; seconds = refl; values = refl }

pub returns-in-Ok-Edge : goal.returns-in-Ok-Edge
returns-in-Ok-Edge c =
    let at = c.in-Ok-Edge in
    rw (at.is, rw at.is at at.field-0-is) record { number = refl; kinds = refl; nexts = refl; firsts = refl; seconds = refl; values = refl }

pub returns-in-Ok-Beta : goal.returns-in-Ok-Beta
returns-in-Ok-Beta c =
    let at = c.in-Ok-Beta in
    rw (at.is, rw at.is at at.field-0-is) record { number = refl; kinds = refl; nexts = refl; firsts = refl; seconds = refl; values = refl }

pub returns-in-Ok-Pair : goal.returns-in-Ok-Pair
returns-in-Ok-Pair c =
    let at = c.in-Ok-Pair in
    rw (at.is, rw at.is at at.field-0-is) record { number = refl; kinds = refl; nexts = refl; firsts = refl; seconds = refl; values = refl }

pub returns-in-Ok-End : goal.returns-in-Ok-End
returns-in-Ok-End c =
    let at = c.in-Ok-End in
    rw (at.is, rw at.is at at.field-0-is) record { number = refl; kinds = refl; nexts = refl; firsts = refl; seconds = refl; values = refl }

pub returns-in-Err : goal.returns-in-Err
returns-in-Err c = rw c.in-Err.is record { number = c.number.ensures; kinds = refl; nexts = refl; firsts = refl; seconds = refl; values = refl }
