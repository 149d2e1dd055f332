-- The tests one after another.
use borrow.Author.Tests.{eq-eqb, ne_eqb, le-leb, lt-leb, lt-ltb, le-ltb}
use Rattle.job_sheet.specs.Records.{may_follow}
use Rattle.job_sheet.proofs.record.may_follow.Goals as goal

pub returns-then-last-eq0 : goal.returns-then-last-eq0
unfolding may_follow
returns-then-last-eq0 c = rw (eq-eqb _ _ c.if-last-eq0.true)

pub returns-then-last-ge5 : goal.returns-then-last-ge5
unfolding may_follow
returns-then-last-ge5 c = rw (ne_eqb _ _ c.if-last-eq0.false, le-leb _ _ c.if-last-ge5.true)

pub returns-then-kind-lt2 : goal.returns-then-kind-lt2
unfolding may_follow
returns-then-kind-lt2 c = rw (ne_eqb _ _ c.if-last-eq0.false, lt-leb _ _ c.if-last-ge5.false, lt-ltb _ _ c.if-kind-lt2.true)

pub returns-then-kind-last : goal.returns-then-kind-last
unfolding may_follow
returns-then-kind-last c =
    rw (
      ne_eqb _ _ c.if-last-eq0.false,
      lt-leb _ _ c.if-last-ge5.false,
      le-ltb _ _ c.if-kind-lt2.false,
      lt-ltb _ _ c.if-kind-last.true,
    )

pub returns : goal.returns
unfolding may_follow
returns c =
    rw (
      ne_eqb _ _ c.if-last-eq0.false,
      lt-leb _ _ c.if-last-ge5.false,
      le-ltb _ _ c.if-kind-lt2.false,
      le-ltb _ _ c.if-kind-last.false,
    )
