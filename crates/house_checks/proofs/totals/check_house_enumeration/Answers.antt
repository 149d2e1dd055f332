-- The tests, one after the other.
use Rattle.refusals.proofs.Laws.First.{here, past, told}
use Rattle.buffer_checks.proofs.Checking.{retold}
use borrow.Author.Tests.{lt-ltb, le-ltb}
use Rattle.house_checks.proofs.totals.check_house_enumeration.Goals as goal

pub returns-then-most-free : goal.returns-then-most-free
returns-then-most-free c = here _ _ _ (lt-ltb _ _ c.if-most-free.true)

pub returns-then-over_limit : goal.returns-then-over_limit
returns-then-over_limit c = past _ _ _ _ (le-ltb _ _ c.if-most-free.false) (here _ _ _ (told c.over_limit.ensures c.if-over_limit.true))

pub returns-then-bad_products : goal.returns-then-bad_products
returns-then-bad_products c =
    past _ _ _ _ (le-ltb _ _ c.if-most-free.false)
    (past _ _ _ _ (told c.over_limit.ensures c.if-over_limit.false) (here _ _ _ (told c.bad_products.ensures c.if-bad_products.true)))

pub returns : goal.returns
returns c =
    past _ _ _ _ (le-ltb _ _ c.if-most-free.false)
    (past _ _ _ _ (told c.over_limit.ensures c.if-over_limit.false)
    (past _ _ _ _ (told c.bad_products.ensures c.if-bad_products.false) (retold _ _ _ _ _ c.misfit-misfit.ensures c.check_buffers.ensures)))
