-- The tests, one after the other.
use native.Mathlib.Omega.{arith}
use Rattle.refusals.proofs.Laws.First.{here, past, told}
use Rattle.buffer_checks.proofs.Checking.{few-factors, retold}
use Rattle.record_checks.proofs.Laws.Parts.{ordered_by}
use Rattle.record_checks.proofs.lists.check_recording.Goals as goal

pub overflow_mul-head : goal.overflow_mul-head
overflow_mul-head c = let s = c in omega (arith, few-factors s.args.head.betas s.args.edges s.requires.4 s.requires.3)

pub overflow_mul-head-2 : goal.overflow_mul-head-2
overflow_mul-head-2 c = let s = c in omega (arith, few-factors s.args.head.betas s.args.edges s.requires.4 s.requires.3)

pub returns-then-bad_factors : goal.returns-then-bad_factors
returns-then-bad_factors c = here _ _ _ (told c.bad_factors.ensures c.if-bad_factors.true)

pub returns-then-too_many_chunks : goal.returns-then-too_many_chunks
returns-then-too_many_chunks c = past _ _ _ _ (told c.bad_factors.ensures c.if-bad_factors.false) (here _ _ _ (told c.too_many_chunks.ensures c.if-too_many_chunks.true))

pub returns-then-unwritable : goal.returns-then-unwritable
returns-then-unwritable c =
    past _ _ _ _ (told c.bad_factors.ensures c.if-bad_factors.false) (past _ _ _ _ (told c.too_many_chunks.ensures c.if-too_many_chunks.false) (here _ _ _ (told c.unwritable.ensures c.if-unwritable.true)))

pub other_length-misfit-requires : goal.other_length-misfit-requires
other_length-misfit-requires c =
    let s = c in
    let h = s.args.head in
    (ordered_by h.start h.end h.samples (told c.unwritable.ensures c.if-unwritable.false), s.requires.4, s.requires.5)

pub returns : goal.returns
returns c =
    past _ _ _ _ (told c.bad_factors.ensures c.if-bad_factors.false) (past _ _ _ _ (told c.too_many_chunks.ensures c.if-too_many_chunks.false)
    (past _ _ _ _ (told c.unwritable.ensures c.if-unwritable.false) (retold _ _ _ _ _ c.other_length-misfit.ensures c.check_buffers.ensures)))
