-- Two records of one run join to a record of that run, whose totals are the run's over both ranges, bit for bit.
use Rattle.std.specs.Prelude.{◌≡◌, refl, Bool, true, false, List, ℕ, ◌+◌, ◌-◌, ◌<◌, ltb, Float, get_or}
use Rattle.std.proofs.Common.{sym, ap, subst, ◌∙◌, arith, ltb-true, ltb-false}
use Rattle.std.specs.Float.{nan}
use Rattle.little_endian.specs.Words.{Bytes}
use Rattle.transfer_matrix.specs.Arithmetic.{sum}
use Rattle.transfer_matrix.specs.Rounded.{ieee}
use Rattle.transfer_matrix.specs.Totals.{square, fourth, chunked, sampled}
use Rattle.half_vectors.proofs.Laws.Terms.{sum_same}
use Rattle.run_record.specs.declared.Head.{Head}
use Rattle.run_record.specs.Records.{chunks_of, per_chunk}
use Rattle.run_record.specs.Reading.{head_of, squares_in, fourths_in}
use Rattle.run_record.proofs.Laws.Cases.{passed}
use Rattle.run_record_totals.specs.Totals.{total_squares, total_fourths}
use Rattle.run_record_join.specs.Joining.{in_turn}
use Rattle.demands_records.specs.Runs.{Joins, chain, Holds}
use Rattle.demands_records.proofs.Join.{in_turn_head, in_turn_squares, in_turn_fourths}
use Rattle.demands_records.proofs.Totals.{totals_at}
use Rattle.demands_records.proofs.Laws.Joint.{chain_first, chain_second, both-chunks}

module _ (correlation : (chunk sample place : ℕ) → Float) where
  -- ---- The totals of a record of a run are what sampling its range gives.

  module _ (bytes : List ℕ) (h : Holds correlation bytes) (k : ℕ) (l : k < per_chunk (head_of bytes)) where
    pub run_squares : get_or (total_squares bytes) k nan ≡ sampled ieee (square ieee) (head_of bytes).start (head_of bytes).end (head_of bytes).samples (λ i t. correlation i t k)
    unfolding sampled chunked
    run_squares = totals_at (chunks_of (head_of bytes)) (per_chunk (head_of bytes)) (squares_in bytes) k l ∙ sum_same (chunks_of (head_of bytes)) _ _ (λ c i. h.squares c k i l)

    pub run_fourths : get_or (total_fourths bytes) k nan ≡ sampled ieee (fourth ieee) (head_of bytes).start (head_of bytes).end (head_of bytes).samples (λ i t. correlation i t k)
    unfolding sampled chunked
    run_fourths = totals_at (chunks_of (head_of bytes)) (per_chunk (head_of bytes)) (fourths_in bytes) k l ∙ sum_same (chunks_of (head_of bytes)) _ _ (λ c i. h.fourths c k i l)

  -- ---- What is joined of two records of a run is a record of it.

  module _ (a b : List ℕ) (p : Bytes a) (q : Bytes b) (j : Joins a b) (x : Holds correlation a) (y : Holds correlation b) where
    -- the sums of a power, of both
    both_sums : (power : Float → Float) (u v : (chunk place : ℕ) → Float)
        → ((c k : ℕ) → c < chunks_of (head_of a) → k < per_chunk (head_of a) → u c k ≡ sum ieee (head_of a).samples (λ t. power (correlation ((head_of a).start + c) t k)))
        → ((c k : ℕ) → c < chunks_of (head_of b) → k < per_chunk (head_of b) → v c k ≡ sum ieee (head_of b).samples (λ t. power (correlation ((head_of b).start + c) t k)))
        → (c k : ℕ) → c < chunks_of (head_of a) + chunks_of (head_of b) → k < per_chunk (head_of a)
        → chain (chunks_of (head_of a)) u v c k ≡ sum ieee (head_of a).samples (λ t. power (correlation ((head_of a).start + c) t k))
    both_sums power u v f g c k i l = go (ltb c (chunks_of (head_of a))) refl
      where
        go : (w : Bool) → ltb c (chunks_of (head_of a)) ≡ w
            → chain (chunks_of (head_of a)) u v c k ≡ sum ieee (head_of a).samples (λ t. power (correlation ((head_of a).start + c) t k))
        go true e = let d = ltb-true c (chunks_of (head_of a)) e in chain_first (chunks_of (head_of a)) u v c k d ∙ f c k d l
        go false e =
            let t = j.turns in
            let m = chunks_of (head_of a) in
            let r = (passed a t.first).good.range in
            let d = ltb-false c m e in
            let s : m + (c - m) ≡ c = omega arith in
            let o : (head_of b).start + (c - m) ≡ (head_of a).start + c = omega (arith, t.meet) in
            let l' : k < per_chunk (head_of b) = subst (λ (n : ℕ). k < n) (rw (t.betas, t.pairs)) l in
            ap (λ (z : ℕ). chain m u v z k) (sym s) ∙ chain_second m u v (c - m) k ∙ g (c - m) k (omega arith) l'
            ∙ ap (λ (n : ℕ). sum ieee n (λ t. power (correlation ((head_of b).start + (c - m)) t k))) (sym j.samples)
            ∙ ap (λ (z : ℕ). sum ieee (head_of a).samples (λ t. power (correlation z t k))) o

    pub joined-holds : Holds correlation (in_turn a b)
    joined-holds =
        let e = in_turn_head a b p q j in
        let n = both-chunks a b p q j.turns in
        record {
          squares = rw e (λ c k i l. in_turn_squares a b p q j c k (omega arith) l ∙ both_sums (square ieee) (squares_in a) (squares_in b) x.squares y.squares c k (omega arith) l);
          fourths = rw e (λ c k i l. in_turn_fourths a b p q j c k (omega arith) l ∙ both_sums (fourth ieee) (fourths_in a) (fourths_in b) x.fourths y.fourths c k (omega arith) l);
        }

    -- So its totals are those of sampling from the earlier start to the later end.
    module _ (k : ℕ) (l : k < per_chunk (head_of a)) where
      pub joined_run_squares : get_or (total_squares (in_turn a b)) k nan ≡ sampled ieee (square ieee) (head_of a).start (head_of b).end (head_of a).samples (λ i t. correlation i t k)
      joined_run_squares =
          let e = in_turn_head a b p q j in
          run_squares (in_turn a b) joined-holds k (rw e l)
          ∙ ap (λ (h : Head). sampled ieee (square ieee) h.start h.end h.samples (λ i t. correlation i t k)) e

      pub joined_run_fourths : get_or (total_fourths (in_turn a b)) k nan ≡ sampled ieee (fourth ieee) (head_of a).start (head_of b).end (head_of a).samples (λ i t. correlation i t k)
      joined_run_fourths =
          let e = in_turn_head a b p q j in
          run_fourths (in_turn a b) joined-holds k (rw e l)
          ∙ ap (λ (h : Head). sampled ieee (fourth ieee) h.start h.end h.samples (λ i t. correlation i t k)) e
