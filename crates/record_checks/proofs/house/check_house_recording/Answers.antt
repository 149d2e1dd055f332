-- The tests, one after the other.
use Rattle.refusals.proofs.Laws.First.{here, past, told}
use Rattle.buffer_checks.proofs.Checking.{retold}
use Rattle.record_checks.proofs.Laws.Parts.{ordered_by}
use Rattle.record_checks.proofs.house.check_house_recording.Goals as goal

pub returns-then-bad_products : goal.returns-then-bad_products
returns-then-bad_products c = here _ _ _ (told c.bad_products.ensures c.if-bad_products.true)

pub returns-then-too_many_chunks : goal.returns-then-too_many_chunks
returns-then-too_many_chunks c = past _ _ _ _ (told c.bad_products.ensures c.if-bad_products.false) (here _ _ _ (told c.too_many_chunks.ensures c.if-too_many_chunks.true))

pub returns-then-unwritable : goal.returns-then-unwritable
returns-then-unwritable c =
    past _ _ _ _ (told c.bad_products.ensures c.if-bad_products.false) (past _ _ _ _ (told c.too_many_chunks.ensures c.if-too_many_chunks.false) (here _ _ _ (told c.unwritable.ensures c.if-unwritable.true)))

pub other_length-misfit-requires : goal.other_length-misfit-requires
other_length-misfit-requires c =
    let s = c in
    let h = s.args.head in
    (ordered_by h.start h.end h.samples (told c.unwritable.ensures c.if-unwritable.false), s.requires.4, s.requires.5)

pub returns : goal.returns
returns c =
    past _ _ _ _ (told c.bad_products.ensures c.if-bad_products.false) (past _ _ _ _ (told c.too_many_chunks.ensures c.if-too_many_chunks.false)
    (past _ _ _ _ (told c.unwritable.ensures c.if-unwritable.false) (retold _ _ _ _ _ c.other_length-misfit.ensures c.check_buffers.ensures)))
