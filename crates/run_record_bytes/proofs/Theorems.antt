-- 26 accepts exactly what the format describes.
use Rattle.std.specs.Prelude.{◌≡◌, refl, false, not, List, ℕ, ◌+◌, ◌*◌, ◌-◌, ◌/◌, ◌%◌, ◌≤◌, ◌<◌, eqb, Float, length}
use Rattle.std.proofs.Common.{sym, ◌∙◌, arith}
use Rattle.std.proofs.Math.Path.{ap, subst}
use borrow.Author.Tests.{eqb-true, eq-eqb, le-ltb, not-false}
use Rattle.std.specs.Float.Ieee.{binary64, to_bits, of_bits}
use Rattle.list_laws.proofs.Laws.Search.{or-false, none-at, none_of}
use Rattle.little_endian.specs.Words.{Bytes, word_at}
use Rattle.little_endian.specs.Rows.{Stand}
use Rattle.little_endian.proofs.Laws.Words.{word-at-below}
use Rattle.little_endian.proofs.Laws.Rows.{stand_all, stand_whole}
use Rattle.run_record.specs.declared.Head.{Head}
use Rattle.run_record.specs.Records.{row_bytes, record_of, record_length, chunks_of, per_chunk}
use Rattle.run_record.specs.Reading.{head_of, row_place, double_at, squares_in, fourths_in, bad_sums, bad_row_at, bad_pair, bad_beta, bad_chunk, bad_record}
use Rattle.run_record.proofs.Laws.Cases.{head_good, by_sums, Passed, passed}
use Rattle.run_record.proofs.Laws.Places.{row_inside}
use Rattle.run_record_bytes.specs.Described.{Sums, Described}
use Rattle.run_record_bytes.proofs.Laws.Fields.{HeadRead, RowRead, kind_byte, head-stands, row-stands-at, head_read, row_read}
use Rattle.run_record_bytes.proofs.Laws.Rows.{split, record-length, all_stand, each_stands, both_stand, rows_behind, head_first}
use Rattle.run_record_bytes.proofs.Laws.Sums.{sums_good, sums-of, squares-bits, fourths-bits, bits_fit, same-double}

-- ---- what passed

record RowPassed (bytes : List ℕ) (place chunk beta pair samples : ℕ) : Type 0 where
  kind : word_at bytes place 1 ≡ 18
  chunk_is : word_at bytes (place + 1) 8 ≡ chunk
  beta-is : word_at bytes (place + 9) 1 ≡ beta
  pair_is : word_at bytes (place + 10) 2 ≡ pair
  sums : bad_sums samples (double_at bytes (place + 12)) (double_at bytes (place + 20)) ≡ false

row-passed : (bytes : List ℕ) (place chunk beta pair samples : ℕ) → bad_row_at bytes place chunk beta pair samples ≡ false
    → RowPassed bytes place chunk beta pair samples
unfolding bad_row_at
row-passed bytes place chunk beta pair samples e =
    let x₄ = or-false _ (bad_sums samples (double_at bytes (place + 12)) (double_at bytes (place + 20))) e in
    let x₃ = or-false _ (not (eqb (word_at bytes (place + 10) 2) pair)) x₄.0 in
    let x₂ = or-false _ (not (eqb (word_at bytes (place + 9) 1) beta)) x₃.0 in
    let x₁ = or-false (not (eqb (word_at bytes place 1) 18)) (not (eqb (word_at bytes (place + 1) 8) chunk)) x₂.0 in
    record {
      kind = eqb-true _ _ (not-false _ x₁.0);
      chunk_is = eqb-true _ _ (not-false _ x₁.1);
      beta-is = eqb-true _ _ (not-false _ x₂.1);
      pair_is = eqb-true _ _ (not-false _ x₃.1);
      sums = x₄.1;
    }

module _ (bytes : List ℕ) (b : Bytes bytes) (accepted : bad_record bytes ≡ false) where
  abbrev h : Head
  h = head_of bytes

  all : Passed bytes
  all = passed bytes accepted

  within : (c beta p : ℕ) → c < chunks_of h → beta < h.betas → p < h.pairs → row_place h c (beta * h.pairs + p) + 28 ≤ length bytes
  within c beta p i j k = omega (arith, all.exact, row_inside (chunks_of h) h.betas h.pairs c beta p i j k)

  row-there : (c beta p : ℕ) → c < chunks_of h → beta < h.betas → p < h.pairs
      → RowPassed bytes (row_place h c (beta * h.pairs + p)) (h.start + c) beta p h.samples
  row-there c beta p i j k =
      row-passed bytes (row_place h c (beta * h.pairs + p)) (h.start + c) beta p h.samples
      (none-at (bad_pair bytes h.start h.samples h.betas h.pairs c beta) h.pairs p k
      (none-at (bad_beta bytes h.start h.samples h.betas h.pairs c) h.betas beta j
      (none-at (bad_chunk bytes h.start h.samples h.betas h.pairs) (chunks_of h) c i all.rows)))

  sums-there : (c k : ℕ) → c < chunks_of h → k < per_chunk h → Sums h.samples (squares_in bytes c k) (fourths_in bytes c k)
  unfolding squares_in fourths_in
  sums-there c k i l =
      let s = split h.betas h.pairs k l in
      let r = row-there c (k / h.pairs) (k % h.pairs) i s.beta s.pair in
      let w = within c (k / h.pairs) (k % h.pairs) i s.beta s.pair in
      subst (λ (j : ℕ). Sums h.samples (double_at bytes (row_place h c j + 12)) (double_at bytes (row_place h c j + 20))) s.is
      (sums-of h.samples _ _ (word-at-below bytes _ 8 b (omega arith)) (word-at-below bytes _ 8 b (omega arith)) r.sums)

  -- Bytes that 26 lets pass hold numbers and sums that the format describes,
  pub accepted-is-described : Described (head_of bytes) (squares_in bytes) (fourths_in bytes)
  unfolding head_of
  accepted-is-described =
      let g = all.good in
      let l = all.long in
      record {
        seed = word-at-below bytes 1 8 b (omega arith);
        end = word-at-below bytes 17 8 b (omega arith);
        named = word-at-below bytes 25 4 b (omega arith);
        betas = g.betas;
        pairs = g.pairs;
        range = g.range;
        samples = g.samples;
        sums = sums-there;
      }

  row_is : (c beta p : ℕ) → c < chunks_of h → beta < h.betas → p < h.pairs
      → Stand bytes (row_place h c (beta * h.pairs + p))
      (row_bytes (h.start + c) beta p (squares_in bytes c (beta * h.pairs + p)) (fourths_in bytes c (beta * h.pairs + p)))
  unfolding squares_in fourths_in
  row_is c beta p i j k =
      let at = row_place h c (beta * h.pairs + p) in
      let r = row-there c beta p i j k in
      let w = within c beta p i j k in
      let u = word-at-below bytes (at + 12) 8 b (omega arith) in
      let v = word-at-below bytes (at + 20) 8 b (omega arith) in
      row-stands-at bytes b at (h.start + c) beta p (to_bits binary64 (double_at bytes (at + 12))) (to_bits binary64 (double_at bytes (at + 20))) w r.kind r.chunk_is r.beta-is
      r.pair_is (sym (squares-bits h.samples _ _ u v r.sums)) (sym (fourths-bits h.samples _ _ u v r.sums))

  -- and are the record of these.
  pub accepted_is_record : bytes ≡ record_of (head_of bytes) (squares_in bytes) (fourths_in bytes)
  accepted_is_record =
      stand_all bytes (record_of h (squares_in bytes) (fourths_in bytes)) (record-length h (squares_in bytes) (fourths_in bytes) ∙ sym all.exact)
      (both_stand h (squares_in bytes) (fourths_in bytes) bytes (head-stands bytes b all.long all.kind)
      (all_stand h (squares_in bytes) (fourths_in bytes) bytes row_is))

module _ (h : Head) (squares fourths : (chunk place : ℕ) → Float) (d : Described h squares fourths) where
  abbrev bytes : List ℕ
  bytes = record_of h squares fourths

  long : 32 ≤ length bytes
  long = omega (arith, record-length h squares fourths)

  head-there : HeadRead bytes h
  head-there =
      let e = d.end in
      let r = d.range in
      head_read bytes h d.seed (omega arith) d.end d.named (omega (arith, d.betas)) (omega (arith, d.pairs))
      (head_first h squares fourths bytes (stand_whole bytes))

  -- What is read from the record of such a head and sums is that head,
  pub head_as_written : head_of (record_of h squares fourths) ≡ h
  head_as_written = head-there.is

  row_of : (c beta p : ℕ) → c < chunks_of h → beta < h.betas → p < h.pairs
      → RowRead bytes (row_place h c (beta * h.pairs + p)) (h.start + c) beta p (to_bits binary64 (squares c (beta * h.pairs + p)))
      (to_bits binary64 (fourths c (beta * h.pairs + p)))
  row_of c beta p i j k =
      let q : beta * h.pairs + p < per_chunk h = omega (arith, row_inside 1 h.betas h.pairs 0 beta p (omega arith) j k) in
      let s = d.sums c (beta * h.pairs + p) i q in
      row_read bytes (row_place h c (beta * h.pairs + p)) (h.start + c) beta p _ _ (omega (arith, d.end, d.range)) (omega (arith, d.betas)) (omega (arith, d.pairs))
      (bits_fit _ s.double-squares) (bits_fit _ s.double-fourths)
      (each_stands h squares fourths bytes (rows_behind h squares fourths bytes (stand_whole bytes)) c beta p i j k)

  -- and these sums, of every chunk, beta and pair;
  module _ (c k : ℕ) (i : c < chunks_of h) (l : k < per_chunk h) where
    pub squares_as_written : squares_in (record_of h squares fourths) c k ≡ squares c k
    unfolding squares_in
    squares_as_written =
        let s = split h.betas h.pairs k l in
        let r = row_of c (k / h.pairs) (k % h.pairs) i s.beta s.pair in
        ap (λ (x : Head). double_at bytes (row_place x c k + 12)) head_as_written
        ∙ subst (λ (j : ℕ). double_at bytes (row_place h c j + 12) ≡ of_bits binary64 (to_bits binary64 (squares c j))) s.is (ap (of_bits binary64) r.squares_are)
        ∙ same-double (squares c k) (d.sums c k i l).double-squares

    pub fourths_as_written : fourths_in (record_of h squares fourths) c k ≡ fourths c k
    unfolding fourths_in
    fourths_as_written =
        let s = split h.betas h.pairs k l in
        let r = row_of c (k / h.pairs) (k % h.pairs) i s.beta s.pair in
        ap (λ (x : Head). double_at bytes (row_place x c k + 20)) head_as_written
        ∙ subst (λ (j : ℕ). double_at bytes (row_place h c j + 20) ≡ of_bits binary64 (to_bits binary64 (fourths c j))) s.is (ap (of_bits binary64) r.fourths_are)
        ∙ same-double (fourths c k) (d.sums c k i l).double-fourths

  row_good : (c beta p : ℕ) → c < chunks_of h → beta < h.betas → p < h.pairs → bad_pair bytes h.start h.samples h.betas h.pairs c beta p ≡ false
  row_good c beta p i j k =
      let at = row_place h c (beta * h.pairs + p) in
      let r = row_of c beta p i j k in
      let n = row_inside (chunks_of h) h.betas h.pairs c beta p i j k in
      let q : beta * h.pairs + p < per_chunk h = omega (arith, row_inside 1 h.betas h.pairs 0 beta p (omega arith) j k) in
      let s = d.sums c (beta * h.pairs + p) i q in
      sym (by_sums bytes at (h.start + c) beta p h.samples _ _ _ _ (sym (kind_byte bytes at (omega (arith, record-length h squares fourths)))) r.kind
      (sym r.chunk_is) refl (sym r.beta-is) refl (sym r.pair_is) refl)
      ∙ rw (r.squares_are, r.fourths_are, same-double _ s.double-squares, same-double _ s.double-fourths) (sums_good _ _ _ s)

  -- and 26 lets it pass.
  pub described-is-accepted : bad_record (record_of h squares fourths) ≡ false
  unfolding bad_record
  described-is-accepted =
      let k : word_at bytes 0 1 ≡ 17 = kind_byte bytes 0 (omega (arith, long)) ∙ head-there.kind in
      rw (
        head_as_written,
        le-ltb (length bytes) 32 long,
        eq-eqb (word_at bytes 0 1) 17 k,
        head_good h (record { betas = d.betas; pairs = d.pairs; range = d.range; samples = d.samples }),
        eq-eqb (length bytes) (record_length h) (record-length h squares fourths),
      )
      (none_of _ (chunks_of h) (λ c i. none_of _ h.betas (λ beta j. none_of _ h.pairs (λ p l. row_good c beta p i j l))))
