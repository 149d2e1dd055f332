use mathlib.Core.Path.{◌≡◌, subst}
use Prim.Native.Nat.{ℕ}
use native.Mathlib.Omega.{arith}
use lib.ListN.{length}
use Rattle.little_endian.specs.Rows.{rows}
use Rattle.job_sheet_put.specs.Behind.{Appended, raw_pair}
use Rattle.job_sheet_put.proofs.Laws.Behind.{no_rows}
use Rattle.job_sheet_put.proofs.Laws.Rows.{pair_row}
use Rattle.job_sheet_put.proofs.rows.put_pairs.Goals as goal

pub loop-i-init : goal.loop-i-init
loop-i-init c = (omega arith, no_rows _ _ _)

pub put_pair-requires : goal.put_pair-requires
put_pair-requires c =
    let i = c.loop-i in
    omega (arith, i.invariant.1.size)

pub loop-i-preserved : goal.loop-i-preserved
loop-i-preserved c =
    let w = c in
    let l = w in
    let i = l.loop-i in
    let a = l.args in
    (omega arith, pair_row a.us.now a.vs.now a.place i.i i.invariant.1 w.put_pair.ensures)

pub shape_of-sheet : goal.shape_of-sheet
shape_of-sheet c = c.loop-i.invariant.1.size

pub returns : goal.returns
returns c =
    let a = c.args in
    let k : c.loop-i.i ≡ length a.us.now = omega arith in
    subst (λ (i : ℕ). Appended a.place (rows (raw_pair a.us.now a.vs.now) i) a.sheet.now c.loop-i.sheet) k c.loop-i.invariant.1
