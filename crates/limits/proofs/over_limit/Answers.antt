-- The limit is the tester's alone.
use mathlib.Core.Path.{refl}
use Rattle.limits.proofs.over_limit.Goals as goal

pub returns-in-Tester : goal.returns-in-Tester
returns-in-Tester c = rw c.in-Tester.is refl
