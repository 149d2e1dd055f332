-- The tests, one after the other.
use Rattle.refusals.proofs.Laws.First.{here, past, told}
use borrow.Author.Rules.{rules}
use Rattle.house_checks.proofs.lists.check_house_lists.Goals as goal

pub bad_couplings-requires : goal.bad_couplings-requires
bad_couplings-requires c = search rules

pub returns-then-bad_couplings : goal.returns-then-bad_couplings
returns-then-bad_couplings c = here _ _ _ (told c.bad_couplings.ensures c.if-bad_couplings.true)

pub check_buffers-requires : goal.check_buffers-requires
check_buffers-requires c = search rules

pub returns : goal.returns
returns c =
    let counted = c in
    past _ _ _ _ (told counted.bad_couplings.ensures counted.if-bad_couplings.false) c.check_buffers.ensures
