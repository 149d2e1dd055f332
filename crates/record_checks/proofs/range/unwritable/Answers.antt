-- The end below the start, or else the samples tell.
use borrow.Author.Tests.{lt-ltb, le-ltb}
use native.Mathlib.Omega.{arith}
use Rattle.record_checks.proofs.range.unwritable.Goals as goal

pub returns-then-head : goal.returns-then-head
returns-then-head c = let h = c.args.head in rw (lt-ltb h.end h.start c.if-head.true)

pub returns : goal.returns
returns c = let h = c.args.head in rw (le-ltb h.end h.start (omega (arith, c.if-head.false)))
