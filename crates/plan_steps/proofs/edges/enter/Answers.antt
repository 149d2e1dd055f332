-- By cases of the distance and of what stands there.
use Rattle.plan_steps.proofs.Entering.{entered_near, entered_left, entered_there}
use Rattle.plan_steps.proofs.edges.enter.Goals as goal

pub returns-then-d-w : goal.returns-then-d-w
returns-then-d-w c = entered_near _ _ _ _ _ _ _ c.if-d-w.true c.requires.3 c.insert_near.ensures

pub returns-then-plan-t-eq0 : goal.returns-then-plan-t-eq0
returns-then-plan-t-eq0 c = let s = c in
    entered_left _ _ _ _ _ c.if-d-w.false c.if-plan-t-eq0.true s.requires.1 s.requires.0

pub returns-else-plan-t-eq0 : goal.returns-else-plan-t-eq0
returns-else-plan-t-eq0 c = entered_there _ _ _ _ _ c.if-d-w.false c.if-plan-t-eq0.false c.requires.1
