-- The tests, one after the other.
use Rattle.refusals.proofs.Laws.First.{here, past, told}
use Rattle.buffer_checks.proofs.Checking.{retold}
use Rattle.house_checks.proofs.totals.check_house_sampling.Goals as goal

pub returns-then-bad_products : goal.returns-then-bad_products
returns-then-bad_products c = here _ _ _ (told c.bad_products.ensures c.if-bad_products.true)

pub returns-then-too_many_chunks : goal.returns-then-too_many_chunks
returns-then-too_many_chunks c = past _ _ _ _ (told c.bad_products.ensures c.if-bad_products.false) (here _ _ _ (told c.too_many_chunks.ensures c.if-too_many_chunks.true))

pub returns : goal.returns
returns c =
    past _ _ _ _ (told c.bad_products.ensures c.if-bad_products.false)
    (past _ _ _ _ (told c.too_many_chunks.ensures c.if-too_many_chunks.false) (retold _ _ _ _ _ c.misfit-misfit.ensures c.check_buffers.ensures))
