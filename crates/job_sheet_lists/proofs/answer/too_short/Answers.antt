-- The first list, then the other.
use borrow.Author.Tests.{lt-ltb, le-ltb}
use Rattle.job_sheet_lists.proofs.answer.too_short.Goals as goal

pub returns-then-list-entries : goal.returns-then-list-entries
returns-then-list-entries c = rw (lt-ltb _ _ c.if-list-entries.true)

pub returns : goal.returns
returns c = rw (le-ltb _ _ c.if-list-entries.false)
