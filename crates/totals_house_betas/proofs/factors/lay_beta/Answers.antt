use mathlib.Core.Path.{◌≡◌, ap, ◌∙◌}
use Prim.Native.Nat.{◌*◌}
use native.Mathlib.Omega.{arith}
use lib.ListN.{length, length-set}
use Rattle.totals_house_betas.proofs.Laws.Filling.{laid-length, laid_more, laid-all}
use Rattle.list_laws.proofs.Laws.Part.{fill_none}
use Rattle.totals_house_betas.proofs.factors.lay_beta.Goals as goal

pub loop-e-init : goal.loop-e-init
loop-e-init c = (omega arith, fill_none _ _ _)

pub factor-plus-requires : goal.factor-plus-requires
factor-plus-requires c = (c.requires.0, c.requires.3 c.loop-e.e c.loop-e-test.true)

pub factor-minus-requires : goal.factor-minus-requires
factor-minus-requires c = (c.requires.0, c.requires.3 c.loop-e.e c.loop-e-test.true)

pub bounds-factors-e : goal.bounds-factors-e
bounds-factors-e c = omega (arith, (let it : length c.loop-e.factors ≡ 2 * length c.args.mag.now = ap length c.loop-e.invariant.1 ∙ laid-length c.args.factors.now c.args.beta c.args.mag.now c.requires.1 c.loop-e.e c.loop-e.invariant.0 ∙ c.requires.1 in it), c.loop-e-test.true)

pub bounds-factors-e-in-loop-e : goal.bounds-factors-e-in-loop-e
bounds-factors-e-in-loop-e c = omega (arith, length-set c.loop-e.factors (2 * c.loop-e.e) c.factor-plus.result, (let it : length c.loop-e.factors ≡ 2 * length c.args.mag.now = ap length c.loop-e.invariant.1 ∙ laid-length c.args.factors.now c.args.beta c.args.mag.now c.requires.1 c.loop-e.e c.loop-e.invariant.0 ∙ c.requires.1 in it), c.loop-e-test.true)

pub loop-e-preserved : goal.loop-e-preserved
loop-e-preserved c =
    let a = c.args in (
      omega arith,
      laid_more a.factors.now a.beta a.mag.now c.requires.1 c.loop-e.e _ _ _ c.loop-e-test.true c.loop-e.invariant.1 c.factor-plus.ensures c.factor-minus.ensures,
    )

pub shape_of-factors : goal.shape_of-factors
shape_of-factors c = ap length c.loop-e.invariant.1 ∙ laid-length c.args.factors.now c.args.beta c.args.mag.now c.requires.1 c.loop-e.e c.loop-e.invariant.0

pub returns : goal.returns
returns c =
    let a = c.args in
    c.loop-e.invariant.1 ∙ laid-all a.factors.now a.beta a.mag.now c.requires.1 c.loop-e.e (omega (arith, c.loop-e.invariant.0))
