-- By the bit.
use mathlib.Core.Path.{refl}
use borrow.Author.Tests.{eq-eqb, ne_eqb}
use Rattle.c_values.proofs.options.manner_in.Goals as goal

pub returns-then-number-eq1 : goal.returns-then-number-eq1
returns-then-number-eq1 c = rw (eq-eqb _ _ c.if-number-eq1.true) refl

pub returns : goal.returns
returns c = rw (ne_eqb _ _ c.if-number-eq1.false) refl
