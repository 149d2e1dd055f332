use mathlib.Core.Path.{◌≡◌, subst}
use Prim.Native.Nat.{ℕ}
use native.Mathlib.Omega.{arith}
use lib.ListN.{length}
use Rattle.little_endian.specs.Rows.{rows}
use Rattle.job_sheet_put.specs.Behind.{Appended, raw_beta}
use Rattle.job_sheet_put.proofs.Laws.Behind.{no_rows}
use Rattle.job_sheet_put.proofs.Laws.Rows.{beta-row}
use Rattle.job_sheet_put.proofs.rows.put_betas.Goals as goal

pub loop-i-init : goal.loop-i-init
loop-i-init c = (omega arith, no_rows _ _ _)

pub put_beta-requires : goal.put_beta-requires
put_beta-requires c =
    let i = c.loop-i in
    omega (arith, i.invariant.1.size)

pub loop-i-preserved : goal.loop-i-preserved
loop-i-preserved c =
    let w = c in
    let l = w in
    let i = l.loop-i in
    let a = l.args in
    (omega arith, beta-row a.betas.now a.place i.i _ i.invariant.1 w.bits_of.ensures w.put_beta.ensures)

pub shape_of-sheet : goal.shape_of-sheet
shape_of-sheet c = c.loop-i.invariant.1.size

pub returns : goal.returns
returns c =
    let a = c.args in
    let k : c.loop-i.i ≡ length a.betas.now = omega arith in
    subst (λ (i : ℕ). Appended a.place (rows (raw_beta a.betas.now) i) a.sheet.now c.loop-i.sheet) k c.loop-i.invariant.1
