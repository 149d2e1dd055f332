-- The refusals in turn; what is accepted has its totals filled in.
use native.Mathlib.Omega.{arith}
use mathlib.Core.Path.{◌≡◌, sym, ap, ◌∙◌}
use mathlib.Core.Bool.{false}
use Prim.Native.Nat.{◌*◌}
use borrow.Author.Tests.{not-true, not-false}
use lib.ListN.{length}
use Rattle.refusals.specs.AcceptedTotals.{misfits}
use Rattle.run_record.specs.declared.Head.{Head}
use Rattle.run_record.specs.Records.{record_length, chunks_of, per_chunk}
use Rattle.run_record.specs.Reading.{head_of, bad_record}
use Rattle.run_record.proofs.Laws.Cases.{Good, few-rows, passed}
use Rattle.run_record_totals.proofs.Laws.Columns.{rows_lie, squares_filled, fourths_filled}
use Rattle.run_record_totals.proofs.Laws.Calls.{both_fit, refused-26, refused-12, accepted}
use Rattle.run_record_totals.proofs.record_totals.Goals as goal

pub returns-then-not-is_record : goal.returns-then-not-is_record
returns-then-not-is_record c = refused-26 _ _ _ (not-false _ (sym c.is_record.ensures ∙ not-true _ c.if-not-is_record.true-raw))

pub head_of-h-requires : goal.head_of-h-requires
head_of-h-requires c = (passed _ ((let it : bad_record c.args.bytes.now ≡ false = not-true _ (sym c.is_record.ensures ∙ not-false _ c.if-not-is_record.false-raw) in it))).long

pub overflow_sub-chunks : goal.overflow_sub-chunks
overflow_sub-chunks c = ((let it : Good c.head_of-h.result = rw c.head_of-h.ensures (passed _ ((let it : bad_record c.args.bytes.now ≡ false = not-true _ (sym c.is_record.ensures ∙ not-false _ c.if-not-is_record.false-raw) in it))).good in it)).range

pub overflow_mul-h : goal.overflow_mul-h
overflow_mul-h c = record { fits = omega (arith, few-rows _ ((let it : Good c.head_of-h.result = rw c.head_of-h.ensures (passed _ ((let it : bad_record c.args.bytes.now ≡ false = not-true _ (sym c.is_record.ensures ∙ not-false _ c.if-not-is_record.false-raw) in it))).good in it))) }

pub returns-then-misfit : goal.returns-then-misfit
returns-then-misfit c =
    let a = c.args in
    refused-12 _ _ _ ((let it : bad_record c.args.bytes.now ≡ false = not-true _ (sym c.is_record.ensures ∙ not-false _ c.if-not-is_record.false-raw) in it))
    (ap (λ (h : Head). misfits (per_chunk h) (length a.squares.now) (length a.fourths.now)) (sym c.head_of-h.ensures) ∙ sym c.misfit.ensures ∙ c.if-misfit.true)

pub fill_totals-requires : goal.fill_totals-requires
fill_totals-requires c = (omega arith, rows_lie c.head_of-h.result _ _ ((let it : length c.args.bytes.now ≡ record_length c.head_of-h.result = (passed _ ((let it : bad_record c.args.bytes.now ≡ false = not-true _ (sym c.is_record.ensures ∙ not-false _ c.if-not-is_record.false-raw) in it))).exact ∙ ap record_length (sym c.head_of-h.ensures) in it)) ((let it : (let a = c.args in let per = per_chunk c.head_of-h.result in (length a.squares.now ≡ per) × (length a.fourths.now ≡ per)) = both_fit _ _ _ (sym c.misfit.ensures ∙ c.if-misfit.false) in it)).0)

pub fill_totals-requires-2 : goal.fill_totals-requires-2
fill_totals-requires-2 c = (omega arith, rows_lie c.head_of-h.result _ _ ((let it : length c.args.bytes.now ≡ record_length c.head_of-h.result = (passed _ ((let it : bad_record c.args.bytes.now ≡ false = not-true _ (sym c.is_record.ensures ∙ not-false _ c.if-not-is_record.false-raw) in it))).exact ∙ ap record_length (sym c.head_of-h.ensures) in it)) ((let it : (let a = c.args in let per = per_chunk c.head_of-h.result in (length a.squares.now ≡ per) × (length a.fourths.now ≡ per)) = both_fit _ _ _ (sym c.misfit.ensures ∙ c.if-misfit.false) in it)).1)

pub overflow_mul-result : goal.overflow_mul-result
overflow_mul-result c = record { fits = omega (arith, ((let it : Good c.head_of-h.result = rw c.head_of-h.ensures (passed _ ((let it : bad_record c.args.bytes.now ≡ false = not-true _ (sym c.is_record.ensures ∙ not-false _ c.if-not-is_record.false-raw) in it))).good in it)).samples) }

pub returns : goal.returns
returns c =
    let a = c.args in
    let e = c.head_of-h.ensures in
    let f = (let it : (let a = c.args in let per = per_chunk c.head_of-h.result in (length a.squares.now ≡ per) × (length a.fourths.now ≡ per)) = both_fit _ _ _ (sym c.misfit.ensures ∙ c.if-misfit.false) in it) in
    let per : per_chunk c.head_of-h.result ≡ per_chunk (head_of a.bytes.now) = ap per_chunk e in
    let chunks : chunks_of c.head_of-h.result ≡ chunks_of (head_of a.bytes.now) = ap chunks_of e in
    accepted a.bytes.now a.squares.now a.fourths.now ((let it : bad_record c.args.bytes.now ≡ false = not-true _ (sym c.is_record.ensures ∙ not-false _ c.if-not-is_record.false-raw) in it))
    (ap (λ (h : Head). misfits (per_chunk h) (length a.squares.now) (length a.fourths.now)) (sym e) ∙ sym c.misfit.ensures ∙ c.if-misfit.false) _ _ _
    (squares_filled a.bytes.now _ _ _ (f.0 ∙ per) chunks c.fill_totals.ensures)
    (fourths_filled a.bytes.now _ _ _ (f.1 ∙ per) chunks c.fill_totals-2.ensures)
    (ap (λ (h : Head). chunks_of h * h.samples) e)
