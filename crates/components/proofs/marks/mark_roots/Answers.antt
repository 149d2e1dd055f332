use mathlib.Core.Path.{refl}
use native.Mathlib.Omega.{arith}
use Rattle.union_find.proofs.Laws.Filled.{filled_none, filled_more, filled_all}
use Rattle.components.proofs.marks.mark_roots.Goals as goal

pub loop-k-init : goal.loop-k-init
loop-k-init c = filled_none _ refl

pub loop-k-preserved : goal.loop-k-preserved
loop-k-preserved c = filled_more c.loop-k.invariant (omega arith) c.word_at.ensures

pub returns : goal.returns
returns c = filled_all c.loop-k.invariant c.loop-k-test.false
