use native.Mathlib.Omega.{arith}
use Rattle.totals_signs.proofs.factors.factor_at.Goals as goal

pub returns-then-minus : goal.returns-then-minus
returns-then-minus c = rw c.if-minus.true

pub returns-else-minus : goal.returns-else-minus
returns-else-minus c = rw c.if-minus.false (omega arith)
