use mathlib.Core.Path.{refl}
use native.Mathlib.Omega.{arith}
use Rattle.union_find.proofs.Laws.Halve.{kept_refl, shallower, parent-inside, turn, ends}
use Rattle.union_find.proofs.find.Goals as goal

pub loop-x-init : goal.loop-x-init
loop-x-init c = record { kept = kept_refl c.requires.0; below = c.requires.1; same = refl }

pub offset_bounds-p-y : goal.offset_bounds-p-y
offset_bounds-p-y c = omega (arith, parent-inside c.loop-x.invariant)

pub bounds-p-y : goal.bounds-p-y
bounds-p-y c = parent-inside c.loop-x.invariant

pub loop-x-preserved : goal.loop-x-preserved
loop-x-preserved c = turn c.loop-x.invariant c.if-y-x.false

pub loop-x-smaller : goal.loop-x-smaller
loop-x-smaller c = let I = c.loop-x.invariant in shallower _ I.kept.forest _ I.below c.if-y-x.false

pub shape_of-p : goal.shape_of-p
shape_of-p c = c.loop-x.invariant.kept.len

pub returns : goal.returns
returns c = ends c.loop-x.invariant c.if-y-x.true
