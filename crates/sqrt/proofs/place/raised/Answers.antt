use native.Mathlib.Omega.{arith}
use Rattle.sqrt.proofs.Placing.{placed_pos, placed-up}
use borrow.Author.Rules.{rules}
use Rattle.sqrt.proofs.place.raised.Goals as goal

pub placed-p-requires : goal.placed-p-requires
placed-p-requires c = search rules

pub loop-significand-init : goal.loop-significand-init
loop-significand-init c = c.placed-p.ensures

pub overflow_sub-power : goal.overflow_sub-power
overflow_sub-power c = placed_pos _ _ _ c.loop-significand.invariant

pub loop-significand-smaller : goal.loop-significand-smaller
loop-significand-smaller c = let p = c.loop-significand.invariant.positive in omega arith

pub loop-significand-preserved : goal.loop-significand-preserved
loop-significand-preserved c = placed-up _ _ _ c.loop-significand.invariant (omega arith)

pub returns : goal.returns
returns c = (c.loop-significand.invariant, omega arith)
