-- The left edge's factor, by cases.
use Rattle.step_tables.proofs.TableIteration.{left-some, left-none}
use Rattle.step_tables.proofs.tables.left_factor.Goals as goal

pub returns-then-linked : goal.returns-then-linked
returns-then-linked c = left-some _ _ c.if-linked.true

pub returns-else-linked : goal.returns-else-linked
returns-else-linked c = left-none _ _ c.if-linked.false
