-- The product is compared by a quotient.
use native.Mathlib.Omega.{arith}
use Rattle.strip.proofs.Quotient.{quotient_test}
use borrow.Author.Tests.{eq-eqb, ne_eqb}
use Rattle.strip.proofs.refuse.bad_sides.Goals as goal

pub returns-then-w-eq0 : goal.returns-then-w-eq0
returns-then-w-eq0 c = simp (eq-eqb _ _ c.if-w-eq0.true)

pub returns-then-l-eq0 : goal.returns-then-l-eq0
returns-then-l-eq0 c = simp (ne_eqb _ _ c.if-w-eq0.false, eq-eqb _ _ c.if-l-eq0.true)

pub returns : goal.returns
returns c = simp (ne_eqb _ _ c.if-w-eq0.false, ne_eqb _ _ c.if-l-eq0.false) (quotient_test c.args.w c.args.l (omega arith))
