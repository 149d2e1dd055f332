use mathlib.Core.Path.{refl, ◌∙◌}
use native.Mathlib.Omega.{arith}
use lib.Ieee.{nan}
use lib.ListN.{get_or, length-set}
use Rattle.totals_sums.proofs.Adding.{summed-none, summed-more, summed-all}
use Rattle.totals_sums.proofs.powers.add_sums.Goals as goal

pub loop-k-init : goal.loop-k-init
loop-k-init c = (omega arith, refl, summed-none _ _)

pub loop-k-preserved : goal.loop-k-preserved
loop-k-preserved c =
    let l = c.loop-k in
    let a = c.args in
    (omega arith, simp length-set l.invariant.1, summed-more a.totals.now (λ j. get_or a.sums.now j nan) l.totals _ _ l.invariant.2 (omega arith) refl)

pub shape_of-totals : goal.shape_of-totals
shape_of-totals c = c.loop-k.invariant.1

pub returns : goal.returns
returns c = let a = c.args in c.loop-k.invariant.2 ∙ summed-all a.totals.now (λ j. get_or a.sums.now j nan) _ (omega arith)
