use mathlib.Core.Path.{◌≡◌}
use native.Mathlib.Omega.{arith}
use Rattle.distance.specs.Lengths.{calm}
use Rattle.distance.proofs.Relaxation.{steps-lowered, ready_on, join, settled-none, settled_on}
use Rattle.distance.proofs.sweep_down.Goals as goal

pub loop-i-init : goal.loop-i-init
loop-i-init c = (calm (settled-none _ _), omega arith)

pub relax_edge-x-requires : goal.relax_edge-x-requires
relax_edge-x-requires c =
    let l = steps-lowered c.loop-i.invariant.0 in
    (ready_on c.requires l, omega arith)

pub loop-i-preserved : goal.loop-i-preserved
loop-i-preserved c =
    let l = c.loop-i in
    (join (λ p q. settled_on (omega arith) q p) l.invariant.0 c.relax_edge-x.ensures, omega arith)

pub shape_of-d : goal.shape_of-d
shape_of-d c = omega (arith, (steps-lowered c.loop-i.invariant.0).len)

pub returns : goal.returns
returns c = let e : c.loop-i.i ≡ 0 = omega arith in rw e at c.loop-i.invariant.0
