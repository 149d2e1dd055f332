-- The record of each kind, whose fields all lie in the sheet.
use mathlib.Core.Path.{ap, ◌∙◌}
use native.Mathlib.Omega.{arith}
use Rattle.job_sheet.specs.Records.{record_length}
use Rattle.job_sheet.proofs.Laws.Records.{length-1, length-2, length-3, length-4, record_1, record_2, record_3, record_4, record_5}
use Rattle.job_sheet.proofs.record.whole_record.Goals as goal

pub number_at-requires : goal.number_at-requires
number_at-requires c = let l = ap record_length c.if-kind-eq1.true ∙ length-1 in (omega arith, omega arith)

pub number_at-requires-then-kind-eq1 : goal.number_at-requires-then-kind-eq1
number_at-requires-then-kind-eq1 c = let l = ap record_length c.if-kind-eq1.true ∙ length-1 in (omega arith, omega arith)

pub returns-then-kind-eq1 : goal.returns-then-kind-eq1
returns-then-kind-eq1 c = record_1 _ _ _ c.if-kind-eq1.true c.number_at.ensures c.number_at-then-kind-eq1.ensures

pub number_at-requires-then-kind-eq2 : goal.number_at-requires-then-kind-eq2
number_at-requires-then-kind-eq2 c = let l = ap record_length c.if-kind-eq2.true ∙ length-2 in (omega arith, omega arith)

pub number_at-requires-then-kind-eq2-2 : goal.number_at-requires-then-kind-eq2-2
number_at-requires-then-kind-eq2-2 c = let l = ap record_length c.if-kind-eq2.true ∙ length-2 in (omega arith, omega arith)

pub word_at-requires : goal.word_at-requires
word_at-requires c = let l = ap record_length c.if-kind-eq2.true ∙ length-2 in (omega arith, omega arith)

pub returns-then-kind-eq2 : goal.returns-then-kind-eq2
returns-then-kind-eq2 c = record_2 _ _ _ c.if-kind-eq2.true c.number_at-then-kind-eq2.ensures c.number_at-then-kind-eq2-2.ensures c.word_at.ensures

pub word_at-requires-then-kind-eq3 : goal.word_at-requires-then-kind-eq3
word_at-requires-then-kind-eq3 c = let l = ap record_length c.if-kind-eq3.true ∙ length-3 in (omega arith, omega arith)

pub returns-then-kind-eq3 : goal.returns-then-kind-eq3
returns-then-kind-eq3 c = record_3 _ _ _ c.if-kind-eq3.true c.word_at-then-kind-eq3.ensures

pub number_at-requires-then-kind-eq4 : goal.number_at-requires-then-kind-eq4
number_at-requires-then-kind-eq4 c = let l = ap record_length c.if-kind-eq4.true ∙ length-4 in (omega arith, omega arith)

pub number_at-requires-then-kind-eq4-2 : goal.number_at-requires-then-kind-eq4-2
number_at-requires-then-kind-eq4-2 c = let l = ap record_length c.if-kind-eq4.true ∙ length-4 in (omega arith, omega arith)

pub returns-then-kind-eq4 : goal.returns-then-kind-eq4
returns-then-kind-eq4 c = record_4 _ _ _ c.if-kind-eq4.true c.number_at-then-kind-eq4.ensures c.number_at-then-kind-eq4-2.ensures

pub returns : goal.returns
returns c = record_5 _ _ _ c.if-kind-eq1.false c.if-kind-eq2.false c.if-kind-eq3.false c.if-kind-eq4.false
