-- The bytes of a run record: a head, then for each chunk, beta and pair, in that nesting, a row. The sums of chunk c (counted from the start), beta b
-- and pair p are those at place b times pairs + p of the chunk's lists of sums.
use Rattle.std.specs.Prelude.{List, ◌∷◌, ◌++◌, ℕ, ◌+◌, ◌-◌, ◌*◌, Float}
use Rattle.std.specs.Float.{binary64}
use Rattle.std.specs.Float.Ieee.{to_bits}
use Rattle.little_endian.specs.Words.{bytes_of}
use Rattle.little_endian.specs.Rows.{rows}
use Rattle.run_record.specs.declared.Head.{Head}

-- kind 17: seed, start and end, samples per chunk, betas, pairs
abbrev pub head_bytes : Head → List ℕ
head_bytes h =
    17 ∷ (bytes_of 8 h.seed ++ bytes_of 8 h.start ++ bytes_of 8 h.end ++ bytes_of 4 h.samples ++ bytes_of 1 h.betas ++ bytes_of 2 h.pairs)

-- kind 18: chunk, beta, pair, and the sums of squares and of fourth powers, doubles by their bits
abbrev pub row_bytes : (chunk beta pair : ℕ) → (squares fourths : Float) → List ℕ
row_bytes chunk beta pair squares fourths =
    18 ∷ (bytes_of 8 chunk ++ bytes_of 1 beta ++ bytes_of 2 pair ++ bytes_of 8 (to_bits binary64 squares) ++ bytes_of 8 (to_bits binary64 fourths))

module _ (h : Head) where
  -- How many rows a chunk has, and how many chunks there are.
  abbrev pub per_chunk : ℕ
  per_chunk = h.betas * h.pairs

  abbrev pub chunks_of : ℕ
  chunks_of = h.end - h.start

  -- 32 bytes, and 28 for each row
  abbrev pub record_length : ℕ
  record_length = 32 + 28 * (chunks_of * per_chunk)

  module _ (squares fourths : (chunk place : ℕ) → Float) where
    -- The rows of a beta in a chunk, of a chunk, and of a record.
    abbrev pub beta_rows : (c b : ℕ) → List ℕ
    beta_rows c b = rows (λ p. row_bytes (h.start + c) b p (squares c (b * h.pairs + p)) (fourths c (b * h.pairs + p))) h.pairs

    abbrev pub chunk_rows : (c : ℕ) → List ℕ
    chunk_rows c = rows (beta_rows c) h.betas

    abbrev pub record_rows : List ℕ
    record_rows = rows chunk_rows chunks_of

    abbrev pub record_of : List ℕ
    record_of = head_bytes h ++ record_rows
