-- What the totals of an accepted run record are: exact, counted, and bounded.
use Rattle.std.specs.Prelude.{◌≡◌, refl, Bool, true, false, cond, List, ℕ, ◌+◌, ◌*◌, ◌<◌, Float, length, get_or}
use Rattle.std.proofs.Common.{ap, ◌∙◌, arith}
use Rattle.std.specs.Float.{nan, binary64}
use Rattle.list_laws.proofs.Laws.Tabulate.{tabulate-at, tabulate_ext}
use Rattle.little_endian.specs.Words.{Bytes}
use Rattle.rounding.specs.Powers.{Ordered}
use Rattle.rounding.proofs.Laws.Sums.{tally_const}
use Rattle.rounding.proofs.Laws.Powers.{ordered, chained_total}
use Rattle.transfer_matrix.specs.Arithmetic.{sum}
use Rattle.transfer_matrix.specs.Rounded.{ieee}
use Rattle.bounds.proofs.Laws.Pairs.{sum_is}
use Rattle.half_vectors.proofs.Laws.Terms.{sum_same}
use Rattle.refusals.specs.AcceptedTotals.{misfits}
use Rattle.std.specs.declared.result.Result.{Result}
use Rattle.std.specs.declared.result.Result.TheVariants.{Ok, Err}
use Rattle.refusals.specs.declared.Refusal.{Refusal}
use Rattle.refusals.specs.Answers.{Answered}
use Rattle.refusals.proofs.Laws.Answers.{number-not_zero}
use Rattle.run_record.specs.declared.Head.{Head}
use Rattle.run_record.specs.Records.{chunks_of, per_chunk}
use Rattle.run_record.specs.Reading.{head_of, squares_in, fourths_in, bad_record}
use Rattle.run_record_bytes.specs.Described.{Described}
use Rattle.run_record_bytes.proofs.Theorems.{accepted-is-described}
use Rattle.run_record_totals.specs.Totals.{totals_of, total_squares, total_fourths, refused_totals, Totalled}
use Rattle.run_record_join.specs.Joining.{in_turn}
use Rattle.demands_records.proofs.Join.{in_turn_head, in_turn_squares, in_turn_fourths}
use Rattle.demands_records.specs.Runs.{Joins, chain}
use Rattle.demands_records.proofs.Laws.Joint.{both-chunks}
use Rattle.demands_records.proofs.Laws.Chained.{chained_of}

pub totals_at : (chunks per : ℕ) (sums : (chunk place : ℕ) → Float) (k : ℕ) → k < per → get_or (totals_of chunks per sums) k nan ≡ sum ieee chunks (λ c. sums c k)
unfolding totals_of
totals_at chunks per sums k l = tabulate-at _ per k nan l

none_of_two : (x y : Bool) → ◌≡◌ {A = ℕ} (cond x 26 (cond y 12 0)) 0 → (x ≡ false) × (y ≡ false)
none_of_two true y h = absurd (omega arith)
none_of_two false true h = absurd (omega arith)
none_of_two false false h = (refl, refl)

-- what an accepted call answers
counted : {x : ℕ} (k : ℕ) (r : Result ℕ Refusal) → k ≡ 0 → Answered k x r → r ≡ Ok x
counted k (Ok y) z e = ap Ok e.1
counted k (Err f) z e = absurd (number-not_zero f (e.0 ∙ z))

-- ---- An accepted call for totals

module _ (bytes : List ℕ) (b : Bytes bytes) (r : Result ℕ Refusal) (squares squares' fourths fourths' : List Float) (call : Totalled bytes r squares squares' fourths fourths')
    (accepted : refused_totals bytes (length squares) (length fourths) ≡ 0) where
  abbrev h : Head
  h = head_of bytes

  passes : bad_record bytes ≡ false
  passes = (none_of_two (bad_record bytes) (misfits (per_chunk h) (length squares) (length fourths)) accepted).0

  described : Described h (squares_in bytes) (fourths_in bytes)
  described = accepted-is-described bytes b passes

  -- leaves at each place the chunks' sums, added from +0.0 in the chunks' order, each sum rounded,
  pub totals_squares : (k : ℕ) → k < per_chunk h → get_or squares' k nan ≡ sum ieee (chunks_of h) (λ c. squares_in bytes c k)
  totals_squares k l =
      let e : squares' ≡ total_squares bytes = rw accepted at call.squares_are in
      ap (λ (x : List Float). get_or x k nan) e ∙ totals_at (chunks_of h) (per_chunk h) (squares_in bytes) k l

  pub totals_fourths : (k : ℕ) → k < per_chunk h → get_or fourths' k nan ≡ sum ieee (chunks_of h) (λ c. fourths_in bytes c k)
  totals_fourths k l =
      let e : fourths' ≡ total_fourths bytes = rw accepted at call.fourths_are in
      ap (λ (x : List Float). get_or x k nan) e ∙ totals_at (chunks_of h) (per_chunk h) (fourths_in bytes) k l

  -- answers chunks times samples,
  pub totals_counted : r ≡ Ok (chunks_of h * h.samples)
  totals_counted = counted _ r accepted call.answer

  -- and in every total 0 ≤ fourth powers ≤ squares ≤ count.
  pub totals_bounded : (k : ℕ) → k < per_chunk h → Ordered binary64 (get_or fourths' k nan) (get_or squares' k nan) (chunks_of h * h.samples)
  totals_bounded k l =
      let n = chunks_of h in
      let e = tally_const h.samples n in
      let few = described.samples in
      rw (totals_squares k l, totals_fourths k l, sum_is n (λ c. squares_in bytes c k), sum_is n (λ c. fourths_in bytes c k), ← e)
      (ordered binary64 (omega arith)
      (chained_total binary64 (λ c. fourths_in bytes c k) (λ c. squares_in bytes c k) (λ _. h.samples) n (omega arith)
      (λ c i. chained_of h.samples (squares_in bytes c k) (fourths_in bytes c k) (described.sums c k i l))))

-- ---- The totals of a joined record are the sums over both records, in their order.

totals_same : (m n per : ℕ) (x y : (chunk place : ℕ) → Float) → m ≡ n → ((c k : ℕ) → c < n → k < per → x c k ≡ y c k) → totals_of m per x ≡ totals_of n per y
unfolding totals_of
totals_same m n per x y e s =
    tabulate_ext (λ k. sum ieee m (λ c. x c k)) (λ k. sum ieee n (λ c. y c k)) per (λ k l.
    ap (λ (j : ℕ). sum ieee j (λ c. x c k)) e ∙ sum_same n (λ c. x c k) (λ c. y c k) (λ c i. s c k i l))

module _ (a b : List ℕ) (p : Bytes a) (q : Bytes b) (j : Joins a b) where
  pub joined-squares : total_squares (in_turn a b) ≡ totals_of (chunks_of (head_of a) + chunks_of (head_of b)) (per_chunk (head_of a)) (chain (chunks_of (head_of a)) (squares_in a) (squares_in b))
  joined-squares =
      ap (λ (h : Head). totals_of (chunks_of h) (per_chunk h) (squares_in (in_turn a b))) (in_turn_head a b p q j)
      ∙ totals_same _ _ (per_chunk (head_of a)) (squares_in (in_turn a b)) _ (both-chunks a b p q j.turns) (λ c k i l. in_turn_squares a b p q j c k i l)

  pub joined-fourths : total_fourths (in_turn a b) ≡ totals_of (chunks_of (head_of a) + chunks_of (head_of b)) (per_chunk (head_of a)) (chain (chunks_of (head_of a)) (fourths_in a) (fourths_in b))
  joined-fourths =
      ap (λ (h : Head). totals_of (chunks_of h) (per_chunk h) (fourths_in (in_turn a b))) (in_turn_head a b p q j)
      ∙ totals_same _ _ (per_chunk (head_of a)) (fourths_in (in_turn a b)) _ (both-chunks a b p q j.turns) (λ c k i l. in_turn_fourths a b p q j c k i l)
