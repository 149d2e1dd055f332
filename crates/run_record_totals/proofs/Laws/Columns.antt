-- A column's sum, chunk by chunk.
use Rattle.std.specs.Prelude.{◌≡◌, List, ℕ, ◌+◌, ◌*◌, ◌≤◌, ◌<◌, Float}
use Rattle.std.proofs.Math.Path.{refl}
use Rattle.std.proofs.Common.{◌∙◌, mul-le-mul_right, add-one, arith}
use Rattle.std.specs.Float.{binary64}
use Rattle.std.specs.Float.Ieee.{add, of_bits}
use Rattle.list_laws.specs.Tabulate.{tabulate}
use Rattle.transfer_matrix.specs.Arithmetic.{sum}
use Rattle.run_record.specs.declared.Head.{Head}
use Rattle.run_record.specs.Records.{record_length, chunks_of, per_chunk}
use Rattle.run_record.specs.Reading.{head_of, double_at, squares_in, fourths_in}
use Rattle.run_record_totals.specs.Totals.{column_sum, totals_of, total_squares, total_fourths}

module _ (bytes : List ℕ) (per offset k : ℕ) where
  pub column-none : of_bits binary64 0 ≡ column_sum bytes per 0 offset k
  unfolding column_sum sum of_bits
  column-none = refl

  pub column-more : (c : ℕ) (total x : Float) → total ≡ column_sum bytes per c offset k → x ≡ double_at bytes (32 + 28 * (c * per + k) + offset)
      → add binary64 total x ≡ column_sum bytes per (c + 1) offset k
  unfolding column_sum sum
  column-more c total x e f = rw (add-one, e, f)

-- a row at a place is in the bytes
pub row_in : (chunks per c k : ℕ) → c < chunks → k < per → c * per + k < chunks * per
row_in chunks per c k h l = let x : (c + 1) * per ≤ chunks * per = mul-le-mul_right per (omega arith) in omega arith

-- the rows of a whole record lie in its bytes
pub rows_lie : (h : Head) (n len : ℕ) → len ≡ record_length h → n ≡ per_chunk h → 32 + 28 * (chunks_of h * n) ≤ len
rows_lie h n len e p = rw p (omega arith)

-- the columns of both sums are the totals
pub squares-columns : (bytes : List ℕ) → tabulate (column_sum bytes (per_chunk (head_of bytes)) (chunks_of (head_of bytes)) 12) (per_chunk (head_of bytes)) ≡ total_squares bytes
unfolding column_sum totals_of squares_in
squares-columns bytes = refl

pub fourths-columns : (bytes : List ℕ) → tabulate (column_sum bytes (per_chunk (head_of bytes)) (chunks_of (head_of bytes)) 20) (per_chunk (head_of bytes)) ≡ total_fourths bytes
unfolding column_sum totals_of fourths_in
fourths-columns bytes = refl

module _ (bytes : List ℕ) (l : List Float) (per chunks : ℕ) (p : per ≡ per_chunk (head_of bytes)) (c : chunks ≡ chunks_of (head_of bytes)) where
  pub squares_filled : l ≡ tabulate (column_sum bytes per chunks 12) per → l ≡ total_squares bytes
  squares_filled e = e ∙ rw (p, c) (squares-columns bytes)

  pub fourths_filled : l ≡ tabulate (column_sum bytes per chunks 20) per → l ≡ total_fourths bytes
  fourths_filled e = e ∙ rw (p, c) (fourths-columns bytes)
