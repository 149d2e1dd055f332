-- A pair more, or none.
use Rattle.strip_pairs.proofs.Pairing.{counted-one, counted_none}
use native.Mathlib.Omega.{arith}
use Rattle.strip_pairs.proofs.standard.counted.Goals as goal

pub returns-in-Some : goal.returns-in-Some
returns-in-Some c = rw c.in-Some.is (counted-one _ _ _ (omega arith))

pub returns-in-None : goal.returns-in-None
returns-in-None c = rw c.in-None.is (counted_none _ _)
