-- The machine's negative is the definition's.
use lib.Ieee.{neg}
use borrow.Author.Rules.{rules}
use Rattle.half_vectors.proofs.negation.negated_if.Goals as goal

pub returns-then-antisymmetric : goal.returns-then-antisymmetric
unfolding neg
returns-then-antisymmetric c = search rules
