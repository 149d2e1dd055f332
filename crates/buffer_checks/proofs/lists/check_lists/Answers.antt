-- The tests, one after the other.
use Rattle.refusals.proofs.Laws.First.{here, past, told}
use Rattle.buffer_checks.proofs.lists.check_lists.Goals as goal

pub returns-then-bad_factors : goal.returns-then-bad_factors
returns-then-bad_factors c = here _ _ _ (told c.bad_factors.ensures c.if-bad_factors.true)

pub returns : goal.returns
returns c =
    let counted = c in
    past _ _ _ _ (told counted.bad_factors.ensures counted.if-bad_factors.false) c.check_buffers.ensures
