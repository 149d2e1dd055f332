use mathlib.Core.Path.{◌≡◌, refl, ap}
use mathlib.Core.Bool.{false}
use Prim.Native.Nat.{ℕ, ◌+◌, ◌<◌}
use native.Mathlib.Omega.{arith}
use lib.Ieee.{nan}
use lib.ListN.{length, get_or, length-set}
use Rattle.list_laws.proofs.Laws.Part.{fill_none, fill_one}
use Rattle.totals_signs.proofs.Signs.{sign_small}
use Rattle.totals_signs.proofs.factors.lay_signed.Goals as goal

pub loop-e-init : goal.loop-e-init
loop-e-init c = (omega arith, refl, fill_none _ _ _)

pub offset_bounds-factors-factor_at : goal.offset_bounds-factors-factor_at
offset_bounds-factors-factor_at c = omega (arith, c.factor_at.ensures, sign_small (get_or c.args.signs.now c.loop-e.e false))

pub bounds-factors-factor_at : goal.bounds-factors-factor_at
bounds-factors-factor_at c = omega (arith, c.factor_at.ensures, sign_small (get_or c.args.signs.now c.loop-e.e false))

pub loop-e-preserved : goal.loop-e-preserved
loop-e-preserved c =
    let l = c.loop-e in
    let a = c.args in
    let b : a.at + l.e < length a.room.now = omega arith in
    (omega arith, simp length-set l.invariant.1, rw l.invariant.2 (fill_one _ _ _ _ _ b (ap (λ (k : ℕ). get_or a.factors.now k nan) c.factor_at.ensures)))

pub shape_of-room : goal.shape_of-room
shape_of-room c = c.loop-e.invariant.1

pub returns : goal.returns
returns c = let e : c.loop-e.e ≡ length c.args.signs.now = omega arith in rw e at c.loop-e.invariant.2
