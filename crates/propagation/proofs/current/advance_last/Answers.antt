-- The tests, one by one.
use mathlib.Core.Path.{refl}
use mathlib.Core.Logic.{inl, inr}
use native.Mathlib.Omega.{arith}
use Rattle.propagation.proofs.current.advance_last.Goals as goal

pub returns-then-w-lt6 : goal.returns-then-w-lt6
returns-then-w-lt6 c = inl refl

pub returns-then-t-to : goal.returns-then-t-to
returns-then-t-to c = inl refl

pub returns-else-t-to : goal.returns-else-t-to
returns-else-t-to c = inr (record { next = refl; inside = omega arith; wide = omega arith })
