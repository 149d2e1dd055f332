-- The reach, as its tests come out.
use Rattle.strip_window.proofs.Reaching.{reach_far, reach-rising, reach-along, reach_round, reach-short}
use Rattle.strip.proofs.Laws.Sides.{sides_narrow}
use Rattle.strip.proofs.Laws.Kinds.{same-honey, same-eight}
use mathlib.Core.Bool.{not}
use mathlib.Core.Path.{ap, ◌∙◌}
use native.Mathlib.Omega.{arith}
use Rattle.strip_window.proofs.reach.Goals as goal

pub overflow_mul-result : goal.overflow_mul-result
overflow_mul-result c = omega (arith, sides_narrow c.requires)

pub returns-then-eq-s : goal.returns-then-eq-s
returns-then-eq-s c = reach_far _ (c.eq.ensures ∙ same-eight c.args.s.kind) c.if-s-gt1.true c.if-eq-s.true

pub overflow_add-result : goal.overflow_add-result
overflow_add-result c = omega (arith, sides_narrow c.requires)

pub returns-then-rises-w : goal.returns-then-rises-w
returns-then-rises-w c = reach-rising _ (c.eq.ensures ∙ same-eight c.args.s.kind) c.if-s-gt1.true c.if-eq-s.false c.rises.ensures c.if-rises-w.true

pub returns-then-s-gt1 : goal.returns-then-s-gt1
returns-then-s-gt1 c = reach-along _ (c.eq.ensures ∙ same-eight c.args.s.kind) c.if-s-gt1.true c.if-eq-s.false c.rises.ensures c.if-rises-w.false

pub returns-then-ne-s : goal.returns-then-ne-s
returns-then-ne-s c = reach_round _ (c.ne.ensures ∙ ap not (same-honey c.args.s.kind)) c.if-s-gt1.false c.if-ne-s.true

pub returns : goal.returns
returns c = reach-short _ (c.ne.ensures ∙ ap not (same-honey c.args.s.kind)) c.if-s-gt1.false c.if-ne-s.false
