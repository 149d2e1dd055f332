-- The kinds one after another.
use borrow.Author.Tests.{eq-eqb, ne_eqb}
use Rattle.job_sheet.specs.Records.{record_length}
use Rattle.job_sheet.proofs.record.record_length.Goals as goal

pub returns-then-kind-eq1 : goal.returns-then-kind-eq1
unfolding record_length
returns-then-kind-eq1 c = rw (eq-eqb _ _ c.if-kind-eq1.true)

pub returns-then-kind-eq2 : goal.returns-then-kind-eq2
unfolding record_length
returns-then-kind-eq2 c = rw (ne_eqb _ _ c.if-kind-eq1.false, eq-eqb _ _ c.if-kind-eq2.true)

pub returns-then-kind-eq3 : goal.returns-then-kind-eq3
unfolding record_length
returns-then-kind-eq3 c = rw (ne_eqb _ _ c.if-kind-eq1.false, ne_eqb _ _ c.if-kind-eq2.false, eq-eqb _ _ c.if-kind-eq3.true)

pub returns-then-kind-eq4 : goal.returns-then-kind-eq4
unfolding record_length
returns-then-kind-eq4 c =
    rw (
      ne_eqb _ _ c.if-kind-eq1.false,
      ne_eqb _ _ c.if-kind-eq2.false,
      ne_eqb _ _ c.if-kind-eq3.false,
      eq-eqb _ _ c.if-kind-eq4.true,
    )

pub returns : goal.returns
unfolding record_length
returns c =
    rw (
      ne_eqb _ _ c.if-kind-eq1.false,
      ne_eqb _ _ c.if-kind-eq2.false,
      ne_eqb _ _ c.if-kind-eq3.false,
      ne_eqb _ _ c.if-kind-eq4.false,
    )
