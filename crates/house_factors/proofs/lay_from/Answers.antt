use mathlib.Core.Path.{refl, ◌∙◌}
use native.Mathlib.Omega.{arith}
use lib.Ieee.{nan}
use lib.ListN.{length, get_or, length-set}
use Rattle.list_laws.proofs.Laws.Search.{none-at}
use Rattle.coupling_grid.specs.Grid.{off_grid}
use Rattle.house_factors.proofs.Laying.{laid_none, laid_more, laid-all}
use Rattle.house_factors.proofs.lay_from.Goals as goal

pub loop-e-init : goal.loop-e-init
loop-e-init c = let a = c.args in (omega arith, refl, laid_none a.couplings.now a.factors.now)

pub factor-requires : goal.factor-requires
factor-requires c =
    let s = c in
    let l = s.args.couplings.now in
    (s.requires.0, none-at (λ i. off_grid (get_or l i nan)) (length l) c.loop-e.e (omega arith) s.requires.2)

pub bounds-factors-e : goal.bounds-factors-e
bounds-factors-e c =
    let s = c in
    omega (arith, c.loop-e.invariant.1, s.requires.1)

pub loop-e-preserved : goal.loop-e-preserved
loop-e-preserved c =
    let s = c in
    let i = c.loop-e in (
      omega arith,
      simp length-set i.invariant.1,
      laid_more s.args.couplings.now s.args.factors.now i.factors i.e _ i.invariant.2 (omega (arith, s.requires.1)) c.factor.ensures,
    )

pub shape_of-factors : goal.shape_of-factors
shape_of-factors c = c.loop-e.invariant.1

pub returns : goal.returns
returns c =
    let s = c in
    let i = c.loop-e in
    i.invariant.2 ∙ laid-all s.args.couplings.now s.args.factors.now i.e (omega arith) s.requires.1
