-- What some bytes say where they are a run record, and 26: what is no record.
use Rattle.std.specs.Prelude.{Bool, not, ◌||◌, List, ℕ, ◌+◌, ◌*◌, eqb, ltb, Float, length}
use Rattle.std.specs.Float.{binary64}
use Rattle.std.specs.Float.Ieee.{of_bits, to_bits}
use Rattle.limits.specs.Limits.{most_betas, most_pairs, most_samples}
use Rattle.list_laws.specs.Search.{some}
use Rattle.little_endian.specs.Words.{word_at}
use Rattle.estimate.specs.Estimates.{number, is_in_order}
use Rattle.run_record.specs.declared.Head.{Head}
use Rattle.run_record.specs.Records.{per_chunk, chunks_of, record_length}

-- What a head says.
unfoldable pub head_of : List ℕ → Head
head_of bytes = record {
  seed = word_at bytes 1 8;
  start = word_at bytes 9 8;
  end = word_at bytes 17 8;
  samples = word_at bytes 25 4;
  betas = word_at bytes 29 1;
  pairs = word_at bytes 30 2;
}

-- The double whose bits stand at a place.
abbrev pub double_at : List ℕ → (place : ℕ) → Float
double_at bytes place = of_bits binary64 (word_at bytes place 8)

-- Where the row of a chunk and place begins, and its sums.
abbrev pub row_place : Head → (chunk place : ℕ) → ℕ
row_place h c k = 32 + 28 * (c * per_chunk h + k)

unfoldable pub squares_in : List ℕ → (chunk place : ℕ) → Float
squares_in bytes c k = double_at bytes (row_place (head_of bytes) c k + 12)

unfoldable pub fourths_in : List ℕ → (chunk place : ℕ) → Float
fourths_in bytes c k = double_at bytes (row_place (head_of bytes) c k + 20)

-- ---- 26

-- -0.0, by its bits
abbrev pub is_minus_zero : Float → Bool
is_minus_zero x = eqb (to_bits binary64 x) 0x8000_0000_0000_0000

-- Sums that 18 would turn away for one chunk of so many samples, or a -0.0; of no sample both are +0.0.
unfoldable pub bad_sums : (samples : ℕ) → (squares fourths : Float) → Bool
bad_sums samples squares fourths = not (is_in_order (number samples) squares fourths) || is_minus_zero squares || is_minus_zero fourths

-- Over 64 betas or 256 pairs, end below start, or samples times chunks above 2^32.
unfoldable pub bad_head : Head → Bool
bad_head h = ltb most_betas h.betas || ltb most_pairs h.pairs || ltb h.end h.start || ltb most_samples (chunks_of h * h.samples)

-- What stands at a place is no row, or one of another chunk, beta or pair, or its sums are bad.
unfoldable pub bad_row_at : List ℕ → (place chunk beta pair samples : ℕ) → Bool
bad_row_at bytes place chunk beta pair samples =
    not (eqb (word_at bytes place 1) 18) || not (eqb (word_at bytes (place + 1) 8) chunk) || not (eqb (word_at bytes (place + 9) 1) beta)
    || not (eqb (word_at bytes (place + 10) 2) pair) || bad_sums samples (double_at bytes (place + 12)) (double_at bytes (place + 20))

-- The same of the rows behind a head: the row of a pair, some row of a beta, of a chunk, of so many chunks.
module _ (bytes : List ℕ) (start samples betas pairs : ℕ) where
  abbrev pub bad_pair : (chunk beta pair : ℕ) → Bool
  bad_pair c b p = bad_row_at bytes (32 + 28 * (c * (betas * pairs) + (b * pairs + p))) (start + c) b p samples

  abbrev pub bad_beta : (chunk beta : ℕ) → Bool
  bad_beta c b = some (bad_pair c b) pairs

  abbrev pub bad_chunk : (chunk : ℕ) → Bool
  bad_chunk c = some (bad_beta c) betas

  abbrev pub bad_chunks : (chunks : ℕ) → Bool
  bad_chunks chunks = some bad_chunk chunks

-- Some row of all chunks of a head.
abbrev pub bad_rows : List ℕ → Head → Bool
bad_rows bytes h = bad_chunks bytes h.start h.samples h.betas h.pairs (chunks_of h)

-- 26: the bytes are not exactly a run record.
unfoldable pub bad_record : List ℕ → Bool
bad_record bytes =
    ltb (length bytes) 32 || not (eqb (word_at bytes 0 1) 17) || bad_head (head_of bytes) || not (eqb (length bytes) (record_length (head_of bytes)))
    || bad_rows bytes (head_of bytes)
