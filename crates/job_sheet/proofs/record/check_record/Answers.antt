-- The tests one after another, each by the law of its case.
use mathlib.Core.Path.{sym, ◌∙◌}
use native.Mathlib.Omega.{arith}
use borrow.Author.Tests.{not-true, not-false}
use Rattle.job_sheet.proofs.Laws.Records.{missing, out_of_order, cut_short, has_body, has_tail, has_end}
use Rattle.job_sheet.proofs.record.check_record.Goals as goal

pub returns-then-sheet-place : goal.returns-then-sheet-place
returns-then-sheet-place c = missing _ _ _ c.if-sheet-place.true

pub overflow_cast-kind : goal.overflow_cast-kind
overflow_cast-kind c = omega (arith, c.type_inv.sheet c.args.place)

pub returns-then-not-may_follow : goal.returns-then-not-may_follow
returns-then-not-may_follow c = out_of_order _ _ _ (sym c.may_follow.ensures ∙ not-true _ c.if-not-may_follow.true-raw)

pub returns-then-left-record_length : goal.returns-then-left-record_length
returns-then-left-record_length c =
    let e = c.before.before in
    cut_short _ _ _ (sym e.may_follow.ensures ∙ not-false _ e.if-not-may_follow.false-raw) (omega arith)

pub returns-then-kind-lt5 : goal.returns-then-kind-lt5
returns-then-kind-lt5 c =
    let e = c.before.before.before in
    has_body _ _ _ (sym e.may_follow.ensures ∙ not-false _ e.if-not-may_follow.false-raw) (omega arith) c.if-kind-lt5.true

pub returns-then-left-gt1 : goal.returns-then-left-gt1
returns-then-left-gt1 c =
    let e = c.before.before.before.before in
    has_tail _ _ _ (sym e.may_follow.ensures ∙ not-false _ e.if-not-may_follow.false-raw) (omega arith) c.if-kind-lt5.false (omega arith)

pub returns : goal.returns
returns c =
    let e = c.before.before.before.before in
    has_end _ _ _ (sym e.may_follow.ensures ∙ not-false _ e.if-not-may_follow.false-raw) (omega arith) c.if-kind-lt5.false (omega arith)
