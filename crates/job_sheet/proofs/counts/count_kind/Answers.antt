-- The test counts.
use borrow.Author.Tests.{eq-eqb, ne_eqb}
use native.Mathlib.Omega.{arith}
use Rattle.job_sheet.proofs.counts.count_kind.Goals as goal

pub returns-then-kind-counted : goal.returns-then-kind-counted
returns-then-kind-counted c = rw (eq-eqb _ _ c.if-kind-counted.true)

pub returns : goal.returns
returns c = rw (ne_eqb _ _ c.if-kind-counted.false) (omega arith)
