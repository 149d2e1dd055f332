-- Records without rows, and heads whose products would wrap in a word.
use Rattle.std.specs.Prelude.{◌≡◌, refl, true, false, List, ℕ, ◌*◌, ◌-◌, ◌^◌}
use native.Mathlib.Omega.{arith}
use borrow.Author.Tests.{le-ltb, eq-eqb}
use Rattle.std.proofs.Math.ListN.{length}
use Rattle.list_laws.specs.Part.{part}
use Rattle.list_laws.specs.Tabulate.{tabulate}
use Rattle.little_endian.specs.Words.{word_at, bytes_of}
use Rattle.run_record.specs.Records.{head_bytes, record_length, chunks_of, per_chunk}
use Rattle.run_record.specs.Reading.{head_of, bad_head, bad_record}
use Rattle.run_record.proofs.Laws.Places.{no_rows}
use Rattle.run_record.proofs.Laws.Cases.{passed}

-- ---- A head of no beta, no pair or no chunk passes exactly where it is good and 32 bytes are there, whatever its range.

module _ (bytes : List ℕ) (none : chunks_of (head_of bytes) * per_chunk (head_of bytes) ≡ 0) where
  pub head-alone-passes : length bytes ≡ 32 → word_at bytes 0 1 ≡ 17 → bad_head (head_of bytes) ≡ false → bad_record bytes ≡ false
  unfolding bad_record
  head-alone-passes l k g =
      let e : length bytes ≡ record_length (head_of bytes) = omega arith in
      rw (le-ltb (length bytes) 32 (omega arith), eq-eqb (word_at bytes 0 1) 17 k, g, eq-eqb (length bytes) (record_length (head_of bytes)) e) (no_rows bytes (head_of bytes) none)

  pub head-alone-is : bad_record bytes ≡ false → (length bytes ≡ 32) × (word_at bytes 0 1 ≡ 17)
  head-alone-is g = let p = passed bytes g in (omega (arith, p.exact), p.kind)

-- ---- Computed

abbrev headed : (start end samples betas pairs : ℕ) → List ℕ
headed start end samples betas pairs = head_bytes (record { seed = 7; start = start; end = end; samples = samples; betas = betas; pairs = pairs })

-- 28 times 2^62 rows would wrap to none: 32 bytes are no record of them.
pub rows-wrap : bad_record (headed 0 (2 ^ 62) 0 1 1) ≡ true
unfolding bad_record bad_head head_of word_at part bytes_of tabulate
rows-wrap = refl

-- 2^33 chunks of 2^31 samples would wrap to none: they are too many.
pub samples-wrap : bad_record (headed 0 (2 ^ 33) (2 ^ 31) 0 0) ≡ true
unfolding bad_record bad_head head_of word_at part bytes_of tabulate
samples-wrap = refl

-- An end below the start, 65 betas, 257 pairs.
pub bad_heads : (bad_record (headed 5 4 0 0 0) ≡ true) × (bad_record (headed 5 5 0 65 0) ≡ true) × (bad_record (headed 5 5 0 0 257) ≡ true)
unfolding bad_record bad_head head_of word_at part bytes_of tabulate
bad_heads = (refl, refl, refl)

-- An empty range, and every chunk there is where no beta is.
pub heads_alone : (bad_record (headed 5 5 4294967295 64 256) ≡ false) × (bad_head (head_of (headed 0 (2 ^ 64 - 1) 0 0 256)) ≡ false)
unfolding bad_record bad_head head_of word_at part bytes_of tabulate
heads_alone = (head-alone-passes (headed 5 5 4294967295 64 256) refl refl refl refl, refl)
