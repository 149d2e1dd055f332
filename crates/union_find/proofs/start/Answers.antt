use mathlib.Core.Path.{refl}
use native.Mathlib.Omega.{arith}
use Rattle.union_find.proofs.Laws.Filled.{filled_none, filled_more}
use Rattle.union_find.proofs.start.Goals as goal

pub loop-i-init : goal.loop-i-init
loop-i-init c = filled_none _ refl

pub loop-i-preserved : goal.loop-i-preserved
loop-i-preserved c = filled_more c.loop-i.invariant (omega arith) refl

pub returns : goal.returns
returns c = λ v h. c.loop-i.invariant.front v (omega arith)
