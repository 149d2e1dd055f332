-- The rows of a record: how long they are, and where each stands.
use Rattle.std.specs.Prelude.{◌≡◌, List, [], ℕ, zero, suc, ◌+◌, ◌*◌, ◌/◌, ◌%◌, ◌<◌, Float, length}
use Rattle.std.proofs.Common.{sym, subst, ◌∙◌, div-lt_iff_lt-mul, mod-lt, div-add-mod', zero-add, arith, length-append}
use Rattle.little_endian.specs.Rows.{Stand}
use Rattle.little_endian.proofs.Laws.Rows.{stand_both, stand_left, stand_right, rows-length, rows_stand, row-stands}
use Rattle.run_record.specs.declared.Head.{Head}
use Rattle.run_record.specs.Records.{head_bytes, row_bytes, beta_rows, chunk_rows, record_rows, record_of, record_length, chunks_of}
use Rattle.run_record.specs.Reading.{row_place}
use Rattle.run_record_bytes.proofs.Laws.Fields.{head-length, row-length}

-- a place of a chunk's lists is that of a beta and a pair
pub record Split (betas pairs k : ℕ) : Type 0 where
  pub beta : k / pairs < betas
  pub pair : k % pairs < pairs
  pub is : k / pairs * pairs + k % pairs ≡ k

some_pair : (betas pairs k : ℕ) → k < betas * pairs → 0 < pairs
some_pair betas zero k l = absurd (omega arith)
some_pair betas (suc pairs) k l = omega arith

pub split : (betas pairs k : ℕ) → k < betas * pairs → Split betas pairs k
split betas pairs k h =
    let p = some_pair betas pairs k h in
    record { beta = (div-lt_iff_lt-mul p).1 h; pair = mod-lt k p; is = div-add-mod' k pairs }

module _ (h : Head) (squares fourths : (chunk place : ℕ) → Float) where
  abbrev row : (c b p : ℕ) → List ℕ
  row c b p = row_bytes (h.start + c) b p (squares c (b * h.pairs + p)) (fourths c (b * h.pairs + p))

  beta-length : (c b : ℕ) → length (beta_rows h squares fourths c b) ≡ 28 * h.pairs
  beta-length c b = rows-length [] (row c b) 28 (λ p. row-length _ _ _ _ _) h.pairs

  chunk_length : (c : ℕ) → length (chunk_rows h squares fourths c) ≡ 28 * h.pairs * h.betas
  chunk_length c = rows-length [] (beta_rows h squares fourths c) (28 * h.pairs) (beta-length c) h.betas

  pub rows_long : length (record_rows h squares fourths) ≡ 28 * h.pairs * h.betas * chunks_of h
  rows_long = rows-length [] (chunk_rows h squares fourths) (28 * h.pairs * h.betas) chunk_length (chunks_of h)

  pub record-length : length (record_of h squares fourths) ≡ record_length h
  record-length = length-append (head_bytes h) (record_rows h squares fourths) ∙ rw (head-length h, rows_long) (omega arith)

  module _ (bytes : List ℕ) where
    at_place : {m n : ℕ} (t : List ℕ) → m ≡ n → Stand bytes m t → Stand bytes n t
    at_place t e = subst (λ (k : ℕ). Stand bytes k t) e

    same_place : (c b p : ℕ) → row_place h c (b * h.pairs + p) ≡ 32 + 28 * h.pairs * h.betas * c + 28 * h.pairs * b + 28 * p
    same_place c b p = omega arith

    pub all_stand : ((c b p : ℕ) → c < chunks_of h → b < h.betas → p < h.pairs → Stand bytes (row_place h c (b * h.pairs + p)) (row c b p))
        → Stand bytes 32 (record_rows h squares fourths)
    all_stand s =
        rows_stand bytes (chunk_rows h squares fourths) (28 * h.pairs * h.betas) chunk_length 32 (chunks_of h) (λ c i.
        rows_stand bytes (beta_rows h squares fourths c) (28 * h.pairs) (beta-length c) (32 + 28 * h.pairs * h.betas * c) h.betas (λ b j.
        rows_stand bytes (row c b) 28 (λ p. row-length _ _ _ _ _) (32 + 28 * h.pairs * h.betas * c + 28 * h.pairs * b) h.pairs (λ p k.
        at_place (row c b p) (same_place c b p) (s c b p i j k))))

    pub each_stands : Stand bytes 32 (record_rows h squares fourths) → (c b p : ℕ) → c < chunks_of h → b < h.betas → p < h.pairs
        → Stand bytes (row_place h c (b * h.pairs + p)) (row c b p)
    each_stands s c b p i j k =
        at_place (row c b p) (sym (same_place c b p))
        (row-stands bytes (row c b) 28 (λ q. row-length _ _ _ _ _) (32 + 28 * h.pairs * h.betas * c + 28 * h.pairs * b) h.pairs p k
        (row-stands bytes (beta_rows h squares fourths c) (28 * h.pairs) (beta-length c) (32 + 28 * h.pairs * h.betas * c) h.betas b j
        (row-stands bytes (chunk_rows h squares fourths) (28 * h.pairs * h.betas) chunk_length 32 (chunks_of h) c i s)))

    -- a record stands where its head and its rows do
    pub both_stand : Stand bytes 0 (head_bytes h) → Stand bytes 32 (record_rows h squares fourths) → Stand bytes 0 (record_of h squares fourths)
    both_stand s t = stand_both bytes 0 (head_bytes h) (record_rows h squares fourths) s (at_place _ (sym (zero-add _ ∙ head-length h)) t)

    pub rows_behind : Stand bytes 0 (record_of h squares fourths) → Stand bytes 32 (record_rows h squares fourths)
    rows_behind s = at_place _ (zero-add _ ∙ head-length h) (stand_right bytes 0 (head_bytes h) (record_rows h squares fourths) s)

    pub head_first : Stand bytes 0 (record_of h squares fourths) → Stand bytes 0 (head_bytes h)
    head_first s = stand_left bytes 0 (head_bytes h) (record_rows h squares fourths) s
