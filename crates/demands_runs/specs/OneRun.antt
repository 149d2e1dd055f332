-- The record of a job's run over some chunks, whose sums are such as 26 lets pass: what is read from it, its totals, and two whose ranges follow one another.
use Rattle.std.specs.Prelude.{◌≡◌, false, ℕ, ◌+◌, ◌-◌, ◌*◌, ◌≤◌, ◌<◌, Float, length, get_or}
use Rattle.std.proofs.Common.{sym, subst, ◌∙◌, arith, drop_at}
use Rattle.std.proofs.Math.Path.{ap}
use mathlib.Core.List.{List, ◌++◌, append_assoc}
use Rattle.std.proofs.Math.Decide.{dec_lt}
use Rattle.std.proofs.Math.Logic.{dite}
use Rattle.std.specs.Float.{nan}
use Rattle.std.proofs.Math.ListN.{drop}
use Rattle.limits.specs.Limits.{most_samples}
use Rattle.list_laws.proofs.Laws.Tabulate.{tabulate_ext}
use Rattle.little_endian.specs.Rows.{rows}
use Rattle.transfer_matrix.specs.Rounded.{ieee}
use Rattle.transfer_matrix.specs.Totals.{square, fourth, chunked, sampled, sampled_count}
use Rattle.half_vectors.proofs.Laws.Terms.{sum_same}
use Rattle.totals_call.specs.Given.{Given, sums}
use Rattle.totals_call.specs.Calls.{totals_of_drawn}
use Rattle.run_record.specs.declared.Head.{Head}
use Rattle.run_record.specs.Records.{head_bytes, row_bytes, chunk_rows}
use Rattle.run_record.specs.Reading.{head_of, squares_in, fourths_in, bad_record}
use Rattle.run_record_bytes.specs.Described.{Sums, Described}
use Rattle.run_record_bytes.proofs.Theorems.{described-is-accepted, head_as_written, squares_as_written, fourths_as_written}
use Rattle.run_record_bytes.proofs.Laws.Fields.{head-length}
use Rattle.run_record_totals.specs.Totals.{totals_of, total_squares, total_fourths, record_count}
use Rattle.run_record_join.specs.Joining.{in_turn}
use Rattle.demands_records.proofs.Laws.Rows.{rows_same, rows_both}
use Rattle.record_call.specs.Calls.{head_for, sums_for, record_for}
use Rattle.demands_recordings.proofs.Sums.{chunk_is}
use Rattle.demands_recordings.proofs.Laws.Squares.{Even, even_square, even_fourth}

module _ (g : Given) (seed samples : ℕ) where
  -- The sums of a power in a chunk, by the chunk's own number.
  abbrev sums_at : (Float → Float) → (chunk place : ℕ) → Float
  sums_at power i k = get_or (totals_of_drawn g seed i (i + 1) samples power) k nan

  -- Numbers that fit their fields and limits, and sums that 26 lets pass.
  abbrev pub Run : (from to : ℕ) → Type 0
  Run from to = Described (head_for g seed from to samples) (sums_for g seed from to samples (square ieee)) (sums_for g seed from to samples (fourth ieee))

  -- ---- One record: 26 lets it pass, its head is the run's, and its totals are those that `sample` leaves over its chunks, the count too.

  module _ (from to : ℕ) (d : Run from to) where
    abbrev bytes : List ℕ
    bytes = record_for g seed from to samples

    pub run_passes : bad_record (record_for g seed from to samples) ≡ false
    run_passes = described-is-accepted (head_for g seed from to samples) _ _ d

    pub run_head : head_of (record_for g seed from to samples) ≡ head_for g seed from to samples
    run_head = head_as_written (head_for g seed from to samples) _ _ d

    totals_are : (power : Float → Float) → Even power → (read : (chunk place : ℕ) → Float)
        → ((c k : ℕ) → c < to - from → k < sums g → read c k ≡ sums_for g seed from to samples power c k)
        → totals_of (to - from) (sums g) read ≡ totals_of_drawn g seed from to samples power
    unfolding totals_of sampled chunked
    totals_are power even read is =
        tabulate_ext _ _ (sums g) (λ k l. sum_same (to - from) _ _ (λ c i. is c k i l ∙ chunk_is g seed from to samples power even k l c))

    pub run_squares : total_squares (record_for g seed from to samples) ≡ totals_of_drawn g seed from to samples (square ieee)
    run_squares =
        rw run_head (totals_are (square ieee) even_square (squares_in bytes) (λ c k i l. squares_as_written (head_for g seed from to samples) _ _ d c k i l))

    pub run_fourths : total_fourths (record_for g seed from to samples) ≡ totals_of_drawn g seed from to samples (fourth ieee)
    run_fourths =
        rw run_head (totals_are (fourth ieee) even_fourth (fourths_in bytes) (λ c k i l. fourths_as_written (head_for g seed from to samples) _ _ d c k i l))

    pub run_count : record_count (record_for g seed from to samples) ≡ sampled_count from to samples
    run_count = ap (λ (h : Head). sampled_count h.start h.end h.samples) run_head

  -- ---- Two whose ranges follow one another join to the bytes of one long run.

  module _ (from mid to : ℕ) (one : Run from mid) (two : Run mid to) where
    rows_in : (i e : ℕ) → drop 32 (record_for g seed i e samples) ≡ rows (chunk_rows (head_for g seed i e samples) (sums_for g seed i e samples (square ieee)) (sums_for g seed i e samples (fourth ieee))) (e - i)
    rows_in i e = drop_at (head_bytes (head_for g seed i e samples)) _ 32 (head-length (head_for g seed i e samples))

    -- the rows of a chunk, by its own number
    abbrev rows_at : (chunk : ℕ) → List ℕ
    rows_at i =
        rows (λ b. rows (λ p. row_bytes i b p (sums_at (square ieee) i (b * length g.us + p)) (sums_at (fourth ieee) i (b * length g.us + p))) (length g.us)) (length g.betas)

    abbrev rows_from : (start chunk : ℕ) → List ℕ
    rows_from start c = rows_at (start + c)

    -- chunk i of the second range is that many chunks behind the first
    behind : (i : ℕ) → rows_from from (mid - from + i) ≡ rows_from mid i
    behind i = let r = one.range in let e : from + (mid - from + i) ≡ mid + i = omega arith in ap rows_at e

    both : rows (rows_from from) (to - from) ≡ rows (rows_from from) (mid - from) ++ rows (rows_from mid) (to - mid)
    both =
        let r = one.range in
        let s = two.range in
        let e : to - from ≡ mid - from + (to - mid) = omega arith in
        ap (rows (rows_from from)) e ∙ rows_both (rows_from from) (mid - from) (to - mid)
        ∙ ap (λ (l : List ℕ). rows (rows_from from) (mid - from) ++ l) (rows_same _ (rows_from mid) (to - mid) (λ i l. behind i))

    pub runs_join : in_turn (record_for g seed from mid samples) (record_for g seed mid to samples) ≡ record_for g seed from to samples
    unfolding in_turn
    runs_join =
        rw (run_head from mid one, run_head mid to two)
        (ap (λ (l : List ℕ). head_bytes (head_for g seed from to samples) ++ l ++ drop 32 (record_for g seed mid to samples)) (rows_in from mid)
        ∙ ap (λ (l : List ℕ). head_bytes (head_for g seed from to samples) ++ rows (rows_from from) (mid - from) ++ l) (rows_in mid to)
        ∙ append_assoc (head_bytes (head_for g seed from to samples)) _ _
        ∙ ap (λ (l : List ℕ). head_bytes (head_for g seed from to samples) ++ l) (sym both))

    -- The long run is a record too, where it has at most 2^32 samples.
    pub runs-one : (to - from) * samples ≤ most_samples → Run from to
    runs-one few = record {
      seed = one.seed;
      end = two.end;
      named = one.named;
      betas = one.betas;
      pairs = one.pairs;
      range = let r = one.range in let s = two.range in omega arith;
      samples = few;
      sums = λ c k i l.
          dite (dec_lt c (mid - from)) (λ h. one.sums c k h l)
          (λ h. let r = one.range in let e : mid + (c - (mid - from)) ≡ from + c = omega arith in
          subst (λ (x : ℕ). Sums samples (sums_at (square ieee) x k) (sums_at (fourth ieee) x k)) e (two.sums (c - (mid - from)) k (omega arith) l));
    }
