-- `relax` meets its contract: the two ways of `Relaxed`.
use native.Mathlib.Omega.{arith}
use Rattle.distance.specs.Lengths.{nearer, kept}
use Rattle.distance.proofs.relax.Goals as goal

pub returns-then-y-x : goal.returns-then-y-x
returns-then-y-x c = kept (omega arith)

pub returns : goal.returns
returns c = nearer (omega arith)
