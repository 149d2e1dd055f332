-- Each `return` is a law of Placing.
use native.Mathlib.Omega.{arith}
use Rattle.sqrt.proofs.Placing.{placed_zero, placed-odd, placed_even}
use Rattle.sqrt.proofs.place.placed.Goals as goal

pub returns-then-exponent-eq0 : goal.returns-then-exponent-eq0
returns-then-exponent-eq0 c = placed_zero c.args.exponent c.args.digits c.requires c.if-exponent-eq0.true

pub returns-then-exponent-eq0-2 : goal.returns-then-exponent-eq0-2
returns-then-exponent-eq0-2 c = let s = c in placed_even s.args.exponent s.args.digits s.requires c.if-exponent-eq0.false c.if-exponent-eq0-2.true

pub returns : goal.returns
returns c = let s = c in placed-odd s.args.exponent s.args.digits s.requires c.if-exponent-eq0.false (omega arith)
