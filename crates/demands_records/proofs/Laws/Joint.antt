-- Two records that join, the earlier first, are the record of both ranges.
use Rattle.std.specs.Prelude.{◌≡◌, Bool, cond, ℕ, ◌+◌, ◌*◌, ◌-◌, ◌≤◌, ◌<◌, Float, drop}
use Rattle.std.proofs.Math.Path.{refl, ap, subst}
use Rattle.std.proofs.Common.{sym, ◌∙◌, arith, drop_at}
use Rattle.std.proofs.Math.Bool.{true, false}
use mathlib.Core.List.{List, ◌++◌, append_assoc}
use borrow.Author.Tests.{lt-ltb, le-ltb, ltb-true, ltb-false}
use Rattle.std.proofs.Math.Dec.{ltb}
use Rattle.limits.specs.Limits.{most_samples}
use Rattle.little_endian.specs.Words.{Bytes}
use Rattle.little_endian.specs.Rows.{rows}
use Rattle.run_record.specs.declared.Head.{Head}
use Rattle.run_record.specs.Records.{head_bytes, row_bytes, beta_rows, chunk_rows, record_rows, record_of, chunks_of, per_chunk}
use Rattle.run_record.specs.Reading.{head_of, squares_in, fourths_in, bad_record}
use Rattle.run_record_bytes.specs.Described.{Sums, Described}
use Rattle.run_record_bytes.proofs.Theorems.{accepted-is-described, accepted_is_record}
use Rattle.run_record_bytes.proofs.Laws.Fields.{head-length}
use Rattle.run_record_join.specs.Joining.{head_over, in_turn}
use Rattle.run_record_join.specs.Turns.{Turns}
use Rattle.demands_records.specs.Runs.{chain}
use Rattle.demands_records.proofs.Laws.Rows.{rows_same, rows_both}

pub chain_first : (m : ℕ) (x y : (chunk place : ℕ) → Float) (c k : ℕ) → c < m → chain m x y c k ≡ x c k
unfolding chain
chain_first m x y c k l = rw (lt-ltb c m l)

pub chain_second : (m : ℕ) (x y : (chunk place : ℕ) → Float) (i k : ℕ) → chain m x y (m + i) k ≡ y i k
unfolding chain
chain_second m x y i k = let e : m + i - m ≡ i = omega arith in rw (le-ltb (m + i) m (omega arith), e)

-- the rows of a chunk go by its number and its sums
chunk_same : (g h : Head) (s f s' f' : (chunk place : ℕ) → Float) (c c' : ℕ) → g.betas ≡ h.betas → g.pairs ≡ h.pairs → g.start + c ≡ h.start + c'
    → ((k : ℕ) → s c k ≡ s' c' k) → ((k : ℕ) → f c k ≡ f' c' k) → chunk_rows g s f c ≡ chunk_rows h s' f' c'
chunk_same g h s f s' f' c c' b p n x y =
    ap (λ (m : ℕ). rows (beta_rows g s f c) m) b
    ∙ rows_same (beta_rows g s f c) (beta_rows h s' f' c') h.betas (λ beta l.
    ap (λ (m : ℕ). rows (λ q. row_bytes (g.start + c) beta q (s c (beta * g.pairs + q)) (f c (beta * g.pairs + q))) m) p
    ∙ rows_same _ (λ q. row_bytes (h.start + c') beta q (s' c' (beta * h.pairs + q)) (f' c' (beta * h.pairs + q))) h.pairs (λ q i.
    rw (p, n, x (beta * h.pairs + q), y (beta * h.pairs + q))))

-- the head of both ranges, and the sums of both
module _ (a b : List ℕ) where
  abbrev pub joint : Head
  joint = head_over (head_of a) (head_of b)

  abbrev pub joint_squares : (chunk place : ℕ) → Float
  joint_squares = chain (chunks_of (head_of a)) (squares_in a) (squares_in b)

  abbrev pub joint_fourths : (chunk place : ℕ) → Float
  joint_fourths = chain (chunks_of (head_of a)) (fourths_in a) (fourths_in b)

module _ (a b : List ℕ) (p : Bytes a) (q : Bytes b) (t : Turns a b) where
  abbrev first : Head
  first = head_of a

  abbrev second : Head
  second = head_of b

  da : Described first (squares_in a) (fourths_in a)
  da = accepted-is-described a p t.first

  db : Described second (squares_in b) (fourths_in b)
  db = accepted-is-described b q t.second

  pub both-chunks : chunks_of (joint a b) ≡ chunks_of first + chunks_of second
  both-chunks = omega (arith, t.meet, da.range, db.range)

  rows_of : (x : List ℕ) → Bytes x → bad_record x ≡ false → drop 32 x ≡ record_rows (head_of x) (squares_in x) (fourths_in x)
  rows_of x b g =
      ap (drop 32) (accepted_is_record x b g)
      ∙ drop_at (head_bytes (head_of x)) (record_rows (head_of x) (squares_in x) (fourths_in x)) 32 (head-length (head_of x))

  joint-rows : record_rows (joint a b) (joint_squares a b) (joint_fourths a b) ≡ drop 32 a ++ drop 32 b
  joint-rows =
      let m = chunks_of first in
      let n = chunks_of second in
      let S = chain m (squares_in a) (squares_in b) in
      let F = chain m (fourths_in a) (fourths_in b) in
      ap (λ (k : ℕ). rows (chunk_rows (joint a b) S F) k) both-chunks
      ∙ rows_both (chunk_rows (joint a b) S F) m n
      ∙ ap (λ (l : List ℕ). l ++ rows (λ i. chunk_rows (joint a b) S F (m + i)) n)
      (rows_same (chunk_rows (joint a b) S F) (chunk_rows first (squares_in a) (fourths_in a)) m (λ c l.
      chunk_same (joint a b) first S F (squares_in a) (fourths_in a) c c refl refl refl (λ k. chain_first m _ _ c k l) (λ k. chain_first m _ _ c k l))
      ∙ sym (rows_of a p t.first))
      ∙ ap (λ (l : List ℕ). drop 32 a ++ l)
      (rows_same (λ i. chunk_rows (joint a b) S F (m + i)) (chunk_rows second (squares_in b) (fourths_in b)) n (λ i l.
      chunk_same (joint a b) second S F (squares_in b) (fourths_in b) (m + i) i t.betas t.pairs (omega (arith, t.meet, da.range)) (λ k. chain_second m _ _ i k) (λ k. chain_second m _ _ i k))
      ∙ sym (rows_of b q t.second))

  pub joint-is : in_turn a b ≡ record_of (joint a b) (joint_squares a b) (joint_fourths a b)
  unfolding in_turn
  joint-is = append_assoc (head_bytes (joint a b)) (drop 32 a) (drop 32 b) ∙ ap (λ (l : List ℕ). head_bytes (joint a b) ++ l) (sym joint-rows)

  module _ (e : first.samples ≡ second.samples) (few : chunks_of (joint a b) * (joint a b).samples ≤ most_samples) where
    sums_good : (c k : ℕ) → c < chunks_of (joint a b) → k < per_chunk (joint a b) → Sums (joint a b).samples ((joint_squares a b) c k) ((joint_fourths a b) c k)
    unfolding chain
    sums_good c k i l = go (ltb c (chunks_of first)) refl
      where
        go : (u : Bool) → ltb c (chunks_of first) ≡ u
            → Sums (joint a b).samples (cond u (squares_in a c k) (squares_in b (c - chunks_of first) k)) (cond u (fourths_in a c k) (fourths_in b (c - chunks_of first) k))
        go true z = da.sums c k (ltb-true _ _ z) l
        go false z =
            let j : c - chunks_of first < chunks_of second = omega (arith, both-chunks, ltb-false c (chunks_of first) z) in
            let l' : k < per_chunk second = subst (λ (n : ℕ). k < n) (rw (t.betas, t.pairs)) l in
            subst (λ (n : ℕ). Sums n (squares_in b (c - chunks_of first) k) (fourths_in b (c - chunks_of first) k)) (sym e) (db.sums (c - chunks_of first) k j l')

    pub joint-described : Described (joint a b) (joint_squares a b) (joint_fourths a b)
    joint-described = record {
      seed = da.seed;
      end = db.end;
      named = da.named;
      betas = da.betas;
      pairs = da.pairs;
      range = omega (arith, t.meet, da.range, db.range);
      samples = few;
      sums = sums_good;
    }
