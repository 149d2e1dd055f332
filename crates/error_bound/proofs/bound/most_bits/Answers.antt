-- The smaller of the quotient and 52.
use mathlib.Core.Path.{sym}
use native.Mathlib.Omega.{arith}
use native.Mathlib.Nat.{min-eq_left, min-eq_right}
use Rattle.error_bound.proofs.Laws.Margin.{divisor-small}
use Rattle.error_bound.proofs.bound.most_bits.Goals as goal

pub overflow_mul-bits-2 : goal.overflow_mul-bits-2
overflow_mul-bits-2 c = let q = divisor-small c.args.w c.args.near c.requires.0 c.requires.1 in omega arith

pub returns-then-bits-lt52 : goal.returns-then-bits-lt52
returns-then-bits-lt52 c = sym (min-eq_right (let h = c.if-bits-lt52.true in omega arith))

pub returns : goal.returns
returns c = sym (min-eq_left (let h = c.if-bits-lt52.false in omega arith))
