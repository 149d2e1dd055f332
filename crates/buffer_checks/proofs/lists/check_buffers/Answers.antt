-- The tests, one after the other.
use Rattle.refusals.proofs.Laws.First.{here, past}
use borrow.Author.Tests.{lt-ltb, le-ltb}
use mathlib.Core.Path.{refl}
use Rattle.buffer_checks.proofs.lists.check_buffers.Goals as goal

pub returns-then-misfit : goal.returns-then-misfit
returns-then-misfit c = here _ _ _ c.if-misfit.true

pub returns-then-work-room_needed : goal.returns-then-work-room_needed
returns-then-work-room_needed c = past _ _ _ _ c.if-misfit.false (here _ _ _ (lt-ltb _ _ (rw c.room_needed.ensures at c.if-work-room_needed.true)))

pub returns : goal.returns
returns c = past _ _ _ _ c.if-misfit.false (past _ _ _ _ (le-ltb _ _ (rw c.room_needed.ensures at c.if-work-room_needed.false)) refl)
