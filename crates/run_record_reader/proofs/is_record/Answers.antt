-- By the tests in turn.
use native.Mathlib.Omega.{arith}
use mathlib.Core.Path.{◌≡◌, sym, ap, ◌∙◌}
use Prim.Native.Nat.{◌*◌}
use borrow.Author.Tests.{eqb-true, not-false}
use lib.Dec.{eqb}
use lib.ListN.{length}
use Rattle.little_endian.specs.Words.{Bytes}
use Rattle.run_record.specs.declared.Head.{Head}
use Rattle.run_record.specs.Records.{chunks_of, per_chunk, record_length}
use Rattle.run_record.specs.Reading.{bad_head, bad_rows, bad_record}
use Rattle.run_record.proofs.Laws.Places.{no_rows}
use Rattle.run_record.proofs.Laws.Cases.{Good, good_head, few-rows, few-named, end_fits, too_short, no_head, head-bad, length-bad, by_rows}
use mathlib.Core.Bool.{not}
use Rattle.run_record_reader.proofs.is_record.Goals as goal

pub returns-then-bytes-lt32 : goal.returns-then-bytes-lt32
returns-then-bytes-lt32 c = too_short _ c.if-bytes-lt32.true

pub returns-then-word_at-ne17 : goal.returns-then-word_at-ne17
returns-then-word_at-ne17 c = no_head _ c.if-bytes-lt32.false _ c.word_at.ensures c.if-word_at-ne17.true

pub returns-then-bad_head : goal.returns-then-bad_head
returns-then-bad_head c =
    head-bad _ c.if-bytes-lt32.false _ c.word_at.ensures c.if-word_at-ne17.false
    (ap bad_head (sym c.head_of-h.ensures) ∙ sym c.bad_head.ensures ∙ c.if-bad_head.true)

pub overflow_sub-chunks : goal.overflow_sub-chunks
overflow_sub-chunks c = ((let it : Good c.head_of-h.result = good_head _ (sym c.bad_head.ensures ∙ c.if-bad_head.false) in it)).range

pub overflow_mul-betas : goal.overflow_mul-betas
overflow_mul-betas c = record { fits = omega (arith, few-rows _ ((let it : Good c.head_of-h.result = good_head _ (sym c.bad_head.ensures ∙ c.if-bad_head.false) in it))) }

pub bad_length-requires : goal.bad_length-requires
bad_length-requires c = (c.if-bytes-lt32.false, few-rows _ ((let it : Good c.head_of-h.result = good_head _ (sym c.bad_head.ensures ∙ c.if-bad_head.false) in it)))

pub returns-then-bad_length : goal.returns-then-bad_length
returns-then-bad_length c =
    let e = c.head_of-h.ensures in
    length-bad _ c.if-bytes-lt32.false _ c.word_at.ensures c.if-word_at-ne17.false
    (ap bad_head (sym e) ∙ sym c.bad_head.ensures ∙ c.if-bad_head.false)
    (ap (λ (h : Head). not (eqb (length c.args.bytes.now) (record_length h))) (sym e) ∙ sym c.bad_length.ensures ∙ c.if-bad_length.true)

pub returns-then-bytes-eq32 : goal.returns-then-bytes-eq32
returns-then-bytes-eq32 c =
    let h = c.head_of-h.result in
    let z : chunks_of h * per_chunk h ≡ 0 = omega (arith, (let it : length c.args.bytes.now ≡ record_length c.head_of-h.result = eqb-true _ _ (not-false _ (sym c.bad_length.ensures ∙ c.if-bad_length.false)) in it), c.if-bytes-eq32.true) in
    sym (ap not (no_rows c.args.bytes.now h z)) ∙ (let it : (let bytes = c.args.bytes.now in not (bad_rows bytes c.head_of-h.result) ≡ not (bad_record bytes)) = let e = c.head_of-h.ensures in
    ap (λ (h : Head). not (bad_rows c.args.bytes.now h)) e
    ∙ by_rows _ c.if-bytes-lt32.false _ c.word_at.ensures c.if-word_at-ne17.false
    (ap bad_head (sym e) ∙ sym c.bad_head.ensures ∙ c.if-bad_head.false)
    (ap (λ (h : Head). not (eqb (length c.args.bytes.now) (record_length h))) (sym e) ∙ sym c.bad_length.ensures ∙ c.if-bad_length.false) in it)

pub bad_chunks-requires : goal.bad_chunks-requires
bad_chunks-requires c =
    let bytes = c.args.bytes.now in
    let h = c.head_of-h.result in
    let e = c.head_of-h.ensures in
    let g = (let it : Good c.head_of-h.result = good_head _ (sym c.bad_head.ensures ∙ c.if-bad_head.false) in it) in
    let b : Bytes bytes = λ i. (c.type_inv.bytes i).fits in
    record {
      long = omega (arith, (let it : length c.args.bytes.now ≡ record_length c.head_of-h.result = eqb-true _ _ (not-false _ (sym c.bad_length.ensures ∙ c.if-bad_length.false)) in it));
      range = omega (arith, g.range, end_fits bytes h e b c.if-bytes-lt32.false);
      few-samples = few-named bytes h e b c.if-bytes-lt32.false;
      few-betas = g.betas;
      few-pairs = g.pairs;
    }

pub returns : goal.returns
returns c = ap not c.bad_chunks.ensures ∙ (let it : (let bytes = c.args.bytes.now in not (bad_rows bytes c.head_of-h.result) ≡ not (bad_record bytes)) = let e = c.head_of-h.ensures in
    ap (λ (h : Head). not (bad_rows c.args.bytes.now h)) e
    ∙ by_rows _ c.if-bytes-lt32.false _ c.word_at.ensures c.if-word_at-ne17.false
    (ap bad_head (sym e) ∙ sym c.bad_head.ensures ∙ c.if-bad_head.false)
    (ap (λ (h : Head). not (eqb (length c.args.bytes.now) (record_length h))) (sym e) ∙ sym c.bad_length.ensures ∙ c.if-bad_length.false) in it)
