-- The test of a vertex of the forest; another is none.
use borrow.Author.Tests.{lt-ltb, le-ltb}
use Rattle.components.proofs.marks.is_root.Goals as goal

pub returns-then-v-p : goal.returns-then-v-p
returns-then-v-p c = rw (lt-ltb _ _ c.if-v-p.true)

pub returns : goal.returns
returns c = rw (le-ltb _ _ c.if-v-p.false)
