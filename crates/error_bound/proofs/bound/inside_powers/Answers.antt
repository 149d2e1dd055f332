-- The machine's two comparisons.
use native.Mathlib.Omega.{arith}
use lib.Pow.{pow-lt}
use Rattle.rounding.proofs.Laws.Scaled.{castable}
use borrow.Author.Rules.{rules}
use Rattle.error_bound.proofs.bound.inside_powers.Goals as goal

pub pow2-most-requires : goal.pow2-most-requires
pow2-most-requires c = search rules

pub int_to_float-most : goal.int_to_float-most
int_to_float-most c = let e = c.pow2-most.ensures in castable (omega (arith, pow-lt {j = 53} c.requires))

pub returns : goal.returns
returns c = let e = c.pow2-most.ensures in rw e
