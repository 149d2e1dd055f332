use mathlib.Core.Path.{◌≡◌, refl, ap, ◌∙◌}
use Prim.Native.Nat.{ℕ}
use native.Mathlib.Omega.{arith}
use lib.Ieee.{nan}
use lib.ListN.{length, get_or, length-set}
use Rattle.list_laws.specs.Part.{put}
use Rattle.list_laws.proofs.Laws.Part.{fill_none}
use Rattle.list_laws.specs.Tabulate.{tabulate}
use Rattle.transfer_matrix.specs.Rounded.{ieee}
use Rattle.transfer_matrix.specs.Totals.{square, fourth}
use Rattle.totals_sums.proofs.Adding.{sum_at, added_more}
use Rattle.totals_sums.proofs.powers.add_powers.Goals as goal

pub loop-p-init : goal.loop-p-init
loop-p-init c = (omega arith, refl, refl, fill_none _ _ _, fill_none _ _ _)

pub loop-p-preserved : goal.loop-p-preserved
loop-p-preserved c =
    let l = c.loop-p in
    let a = c.args in (
      omega arith,
      simp length-set l.invariant.1,
      simp length-set l.invariant.2,
      added_more a.squares.now (λ i. square ieee (get_or a.c.now i nan)) a.at l.squares _ _ l.invariant.3 (omega arith) refl,
      added_more a.fourths.now (λ i. fourth ieee (get_or a.c.now i nan)) a.at l.fourths _ _ l.invariant.4 (omega arith) refl,
    )

pub shape_of-squares : goal.shape_of-squares
shape_of-squares c = c.loop-p.invariant.1

pub shape_of-fourths : goal.shape_of-fourths
shape_of-fourths c = c.loop-p.invariant.2

pub returns : goal.returns
returns c =
    let l = c.loop-p in
    let a = c.args in
    let e : l.p ≡ length a.c.now = omega arith in record { squares_after = l.invariant.3 ∙ ap (λ (k : ℕ). put a.squares.now a.at (tabulate (sum_at a.squares.now (λ i. square ieee (get_or a.c.now i nan)) a.at) k)) e; fourths_after = l.invariant.4 ∙ ap (λ (k : ℕ). put a.fourths.now a.at (tabulate (sum_at a.fourths.now (λ i. fourth ieee (get_or a.c.now i nan)) a.at) k)) e }
