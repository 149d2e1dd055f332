-- A row more, of a beta and of a chunk; how long rows are.
use Rattle.std.specs.Prelude.{◌≡◌, refl, List, [], ◌∷◌, ◌++◌, ℕ, ◌+◌, ◌*◌, ◌≤◌, ◌<◌, Float, length, get_or}
use Rattle.std.proofs.Common.{sym, ap, subst, ◌∙◌, mul-le-mul_right, arith, length-append}
use Rattle.std.specs.Float.{nan, binary64}
use Rattle.std.specs.Float.Ieee.{to_bits}
use Rattle.little_endian.specs.Words.{bytes_of}
use Rattle.little_endian.specs.Rows.{rows}
use Rattle.little_endian.proofs.Laws.Words.{bytes_of-length}
use Rattle.little_endian.proofs.Laws.Rows.{rows-length}
use Rattle.job_sheet_put.specs.Behind.{Appended}
use Rattle.job_sheet_put.proofs.Laws.Behind.{appended_row}
use Rattle.run_record.specs.declared.Head.{Head}
use Rattle.run_record.specs.Records.{head_bytes, row_bytes, per_chunk, chunks_of, record_length, beta_rows, chunk_rows, record_rows, record_of}
use Rattle.run_record_put.specs.Listed.{listed_beta, listed_chunk}
use Rattle.run_record_put.proofs.Laws.Fields.{two-long, more-long}

-- ---- lengths

pub row-long : (chunk beta pair : ℕ) (squares fourths : Float) → length (row_bytes chunk beta pair squares fourths) ≡ 28
row-long chunk beta pair squares fourths =
    let x = to_bits binary64 squares in
    let four : length (bytes_of 8 chunk ++ bytes_of 1 beta ++ bytes_of 2 pair ++ bytes_of 8 x) ≡ 19
    = more-long (bytes_of 8 chunk ++ bytes_of 1 beta ++ bytes_of 2 pair) 11 8 x (more-long (bytes_of 8 chunk ++ bytes_of 1 beta) 9 2 pair (two-long 8 1 chunk beta)) in
    let all = more-long (bytes_of 8 chunk ++ bytes_of 1 beta ++ bytes_of 2 pair ++ bytes_of 8 x) 19 8 (to_bits binary64 fourths) four in
    omega (arith, all)

pub head-long : (h : Head) → length (head_bytes h) ≡ 32
head-long h =
    let three : length (bytes_of 8 h.seed ++ bytes_of 8 h.start ++ bytes_of 8 h.end) ≡ 24
    = more-long (bytes_of 8 h.seed ++ bytes_of 8 h.start) 16 8 h.end (two-long 8 8 h.seed h.start) in
    let four = more-long (bytes_of 8 h.seed ++ bytes_of 8 h.start ++ bytes_of 8 h.end) 24 4 h.samples three in
    let five = more-long (bytes_of 8 h.seed ++ bytes_of 8 h.start ++ bytes_of 8 h.end ++ bytes_of 4 h.samples) 28 1 h.betas four in
    let six = more-long (bytes_of 8 h.seed ++ bytes_of 8 h.start ++ bytes_of 8 h.end ++ bytes_of 4 h.samples ++ bytes_of 1 h.betas) 29 2 h.pairs five in
    omega (arith, six)

module _ (h : Head) (squares fourths : (chunk place : ℕ) → Float) where
  pub beta-long : (c b : ℕ) → length (beta_rows h squares fourths c b) ≡ 28 * h.pairs
  beta-long c b = rows-length [] _ 28 (λ p. row-long _ _ _ _ _) h.pairs

  pub chunk_long : (c : ℕ) → length (chunk_rows h squares fourths c) ≡ 28 * per_chunk h
  chunk_long c = rows-length [] (beta_rows h squares fourths c) (28 * h.pairs) (beta-long c) h.betas ∙ omega arith

  pub rows_long : (n : ℕ) → length (rows (chunk_rows h squares fourths) n) ≡ 28 * (n * per_chunk h)
  rows_long n = rows-length [] (chunk_rows h squares fourths) (28 * per_chunk h) chunk_long n ∙ omega arith

  pub record_long : length (record_of h squares fourths) ≡ record_length h
  record_long = length-append (head_bytes h) (record_rows h squares fourths) ∙ omega (arith, head-long h, rows_long (chunks_of h))

-- ---- one more

pub row_more : (chunk b first : ℕ) (squares fourths : List Float) (place p : ℕ) {l l' l'' : List ℕ}
    → Appended place (listed_beta chunk b first p squares fourths) l l'
    → Appended (place + 28 * p) (row_bytes chunk b p (get_or squares (first + p) nan) (get_or fourths (first + p) nan)) l' l''
    → Appended place (listed_beta chunk b first (p + 1) squares fourths) l l''
row_more chunk b first squares fourths place p x y = appended_row _ 28 (λ i. row-long _ _ _ _ _) place p x y

-- the rows of the first b betas of chunk c
abbrev pub first_betas : Head → (c : ℕ) → (squares fourths : List Float) → (b : ℕ) → List ℕ
first_betas h c squares fourths = rows (beta_rows h (λ _ k. get_or squares k nan) (λ _ k. get_or fourths k nan) c)

pub beta-more : (h : Head) (c : ℕ) (squares fourths : List Float) (place b : ℕ) {l l' l'' : List ℕ}
    → Appended place (first_betas h c squares fourths b) l l'
    → Appended (place + 28 * (b * h.pairs)) (listed_beta (h.start + c) b (b * h.pairs) h.pairs squares fourths) l' l''
    → Appended place (first_betas h c squares fourths (b + 1)) l l''
beta-more h c squares fourths place b {l} {l'} {l''} x y =
    let e : place + 28 * (b * h.pairs) ≡ place + 28 * h.pairs * b = omega arith in
    appended_row (beta_rows h (λ _ k. get_or squares k nan) (λ _ k. get_or fourths k nan) c) (28 * h.pairs) (beta-long h (λ _ k. get_or squares k nan) (λ _ k. get_or fourths k nan) c) place b x
    (subst (λ (k : ℕ). Appended k (listed_beta (h.start + c) b (b * h.pairs) h.pairs squares fourths) l' l'') e y)

-- ---- places

-- row b of a chunk's
pub beta-inside : (b betas pairs : ℕ) → b < betas → b * pairs + pairs ≤ betas * pairs
beta-inside b betas pairs l = let h : (b + 1) * pairs ≤ betas * pairs = mul-le-mul_right pairs (omega arith) in omega arith

-- chunk c of a record's
pub chunk_inside : (c chunks per : ℕ) → c < chunks → c * per + per ≤ chunks * per
chunk_inside c chunks per l = beta-inside c chunks per l
