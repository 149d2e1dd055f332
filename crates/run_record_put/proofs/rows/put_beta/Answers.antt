use mathlib.Core.Path.{◌≡◌, subst}
use Prim.Native.Nat.{ℕ}
use native.Mathlib.Omega.{arith}
use Rattle.job_sheet_put.specs.Behind.{Appended}
use Rattle.job_sheet_put.proofs.Laws.Behind.{no_rows}
use Rattle.run_record_put.specs.Listed.{listed_beta}
use Rattle.run_record_put.proofs.Laws.Rows.{row_more}
use Rattle.run_record_put.proofs.rows.put_beta.Goals as goal

pub loop-p-init : goal.loop-p-init
loop-p-init c = (omega arith, no_rows _ _ _)

pub put_row-requires : goal.put_row-requires
put_row-requires c =
    let i = c.loop-p in
    omega (arith, i.invariant.1.size, c.requires)

pub loop-p-preserved : goal.loop-p-preserved
loop-p-preserved c =
    let i = c.loop-p in
    let a = c.args in
    (omega arith, row_more a.chunk a.b a.first a.squares.now a.fourths.now a.place i.p i.invariant.1 c.put_row.ensures)

pub shape_of-bytes : goal.shape_of-bytes
shape_of-bytes c = c.loop-p.invariant.1.size

pub returns : goal.returns
returns c =
    let a = c.args in
    let k : c.loop-p.p ≡ a.pairs = omega arith in
    subst (λ (p : ℕ). Appended a.place (listed_beta a.chunk a.b a.first p a.squares.now a.fourths.now) a.bytes.now c.loop-p.bytes) k
    c.loop-p.invariant.1
