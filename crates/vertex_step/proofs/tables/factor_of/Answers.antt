use mathlib.Core.Path.{refl}
use native.Mathlib.Omega.{arith}
use Rattle.vertex_step.proofs.Factors.{factor-is}
use Rattle.vertex_step.proofs.tables.factor_of.Goals as goal

pub returns-then-k-eq0 : goal.returns-then-k-eq0
returns-then-k-eq0 c = λ z. absurd (z (omega arith))

pub returns : goal.returns
returns c = λ z. factor-is c.args.room.now c.args.factors _ _ refl
