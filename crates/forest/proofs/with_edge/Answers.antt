use native.Mathlib.Omega.{arith}
use Rattle.forest.proofs.with_edge.Goals as goal

pub returns-then-joins : goal.returns-then-joins
returns-then-joins c = rw c.if-joins.true (omega arith)

pub returns-else-joins : goal.returns-else-joins
returns-else-joins c = rw c.if-joins.false
