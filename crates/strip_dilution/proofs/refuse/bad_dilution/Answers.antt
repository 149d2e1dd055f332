-- The test, as it comes out.
use borrow.Author.Rules.{rules}
use Rattle.strip_dilution.proofs.refuse.bad_dilution.Goals as goal

pub is_finite-requires : goal.is_finite-requires
is_finite-requires c = search rules

pub is_oversized-requires : goal.is_oversized-requires
is_oversized-requires c = search rules

pub is_oversized-requires-2 : goal.is_oversized-requires-2
is_oversized-requires-2 c = search rules

pub returns : goal.returns
returns c = cc
