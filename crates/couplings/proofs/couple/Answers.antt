use mathlib.Core.Path.{ap, ◌∙◌}
use Prim.Native.Nat.{◌*◌, ◌≤◌}
use native.Mathlib.Omega.{arith}
use lib.ListN.{length}
use Rattle.couplings.proofs.Rows.{no_rows, row_fits, rows-length, row_more, all-rows}
use Rattle.couplings.proofs.couple.Goals as goal

pub loop-b-init : goal.loop-b-init
loop-b-init c = let a = c.args in (omega arith, no_rows a.results.now a.betas.now a.mag.now)

pub overflow_mul-b : goal.overflow_mul-b
overflow_mul-b c =
    let i = c.loop-b in
    let a = c.args in
    let p = row_fits a.results.now a.betas.now a.mag.now c.requires.0 i.b (omega arith) in
    let q = c.requires.1 in
    let z : i.b * length a.mag.now ≤ 262144 = omega arith in
    record { fits = omega arith }

pub couple_at-requires : goal.couple_at-requires
couple_at-requires c =
    let i = c.loop-b in
    let a = c.args in
    let p = row_fits a.results.now a.betas.now a.mag.now c.requires.0 i.b (omega arith) in
    let l = ap length i.invariant.1 ∙ rows-length a.results.now a.betas.now a.mag.now c.requires.0 i.b i.invariant.0 in
    omega arith

pub loop-b-preserved : goal.loop-b-preserved
loop-b-preserved c =
    let i = c.loop-b in
    let a = c.args in (
      omega arith,
      row_more a.results.now a.betas.now a.mag.now c.requires.0 i.b _ _ (omega arith) i.invariant.1 c.couple_at.ensures,
    )

pub shape_of-results : goal.shape_of-results
shape_of-results c =
    let i = c.loop-b in
    let a = c.args in
    ap length i.invariant.1 ∙ rows-length a.results.now a.betas.now a.mag.now c.requires.0 i.b i.invariant.0

pub returns : goal.returns
returns c =
    let i = c.loop-b in
    let a = c.args in
    i.invariant.1 ∙ all-rows a.results.now a.betas.now a.mag.now c.requires.0 i.b (omega arith)
