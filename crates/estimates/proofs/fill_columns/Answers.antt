use mathlib.Core.Path.{◌≡◌, ap, ◌∙◌}
use mathlib.Core.List.{List}
use Prim.Native.Nat.{ℕ, ◌≤◌}
use native.Mathlib.Omega.{arith}
use lib.Ieee.{Float, nan}
use lib.ListN.{length, get_or, set}
use Rattle.std.specs.declared.result.Result.{Result}
use Rattle.refusals.specs.declared.Refusal.{Refusal}
use Rattle.list_laws.specs.Tabulate.{tabulate}
use Rattle.estimate.specs.declared.answer.Estimate.{Estimate}
use Rattle.estimate.specs.Estimates.{mean_in, error_in}
use Rattle.estimates.proofs.Laws.Rows.{rows, no_rows, rows-length, one_more, all-rows}
use Rattle.estimates.proofs.fill_columns.Invariants.{mean_at, error_at}
use Rattle.estimates.proofs.fill_columns.Goals as goal

long : (f : ℕ → Float → Float) (old v : List Float) (i : ℕ) → i ≤ length old → v ≡ rows f old i → length v ≡ length old
long f old v i h e = ap length e ∙ rows-length f old i h

pub loop-i-init : goal.loop-i-init
loop-i-init c = (omega arith, no_rows _ _, no_rows _ _)

pub put_estimate-requires : goal.put_estimate-requires
put_estimate-requires c =
    let l = c.loop-i in
    let i = l.invariant in
    let m = long _ c.args.means.now l.means l.i (omega (arith, i.0, c.requires)) i.1 in
    let e = long _ c.args.errors.now l.errors l.i (omega (arith, i.0, c.requires)) i.2 in
    (omega arith, omega arith)

pub loop-i-preserved : goal.loop-i-preserved
loop-i-preserved c =
    let a = c.args in
    let pre = c.requires in
    let l = c.loop-i in
    let e = c.estimate-answer.ensures in
    let p = c.put_estimate.ensures in (
      omega arith,
      one_more (mean_at a.count a.squares.now a.fourths.now) a.means.now l.i _ _ (omega arith) l.invariant.1
          (p.means_after ∙ ap (λ (x : Result Estimate Refusal). set l.means l.i (mean_in x (get_or l.means l.i nan))) e),
      one_more (error_at a.count a.squares.now a.fourths.now) a.errors.now l.i _ _ (omega arith) l.invariant.2
          (p.errors_after ∙ ap (λ (x : Result Estimate Refusal). set l.errors l.i (error_in x (get_or l.errors l.i nan))) e),
    )

pub shape_of-means : goal.shape_of-means
shape_of-means c = let l = c.loop-i in long _ _ l.means l.i (omega (arith, l.invariant.0, c.requires)) l.invariant.1

pub shape_of-errors : goal.shape_of-errors
shape_of-errors c = let l = c.loop-i in long _ _ l.errors l.i (omega (arith, l.invariant.0, c.requires)) l.invariant.2

pub returns : goal.returns
returns c =
    let a = c.args in
    let pre = c.requires in
    let l = c.loop-i in record { means_after = l.invariant.1 ∙ all-rows (mean_at a.count a.squares.now a.fourths.now) a.means.now l.i (omega arith) ∙ ap (tabulate _) pre.1; errors_after = l.invariant.2 ∙ all-rows (error_at a.count a.squares.now a.fourths.now) a.errors.now l.i (omega arith) ∙ ap (tabulate _) pre.2 }
