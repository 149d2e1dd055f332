-- A total reads the correlations of its own configurations and nothing else.
use Rattle.std.specs.Prelude.{◌≡◌, ℕ, ◌+◌, ◌*◌, ◌-◌, ◌^◌, ◌≤◌, ◌<◌, Float}
use Rattle.std.proofs.Common.{arith}
use Rattle.transfer_matrix.specs.Arithmetic.{sum}
use Rattle.transfer_matrix.specs.Rounded.{ieee}
use Rattle.transfer_matrix.specs.Totals.{chunk_size, chunk_count, chunked, enumerated, sampled}
use Rattle.bounds.proofs.Laws.Chunks.{configuration_lt}
use Rattle.half_vectors.proofs.Laws.Terms.{sum_same}

chunked-same : (chunks size : ℕ) (x y : ℕ → ℕ → Float) → ((i j : ℕ) → i < chunks → j < size → x i j ≡ y i j)
    → chunked ieee chunks size x ≡ chunked ieee chunks size y
unfolding chunked
chunked-same chunks size x y h =
    sum_same chunks (λ i. sum ieee size (x i)) (λ i. sum ieee size (y i)) (λ i b. sum_same size (x i) (y i) (λ j l. h i j b l))

-- of an enumeration
pub enumerated-same : (power : Float → Float) (free : ℕ) (c d : ℕ → Float) → ((x : ℕ) → x < 2 ^ free → c x ≡ d x)
    → enumerated ieee power free c ≡ enumerated ieee power free d
unfolding enumerated
enumerated-same power free c d h =
    chunked-same (chunk_count free) (chunk_size free) _ _ (λ i j b l. rw (h (i * chunk_size free + j) (configuration_lt free i j b l)))

-- of a sampling
pub sampled-same : (power : Float → Float) (from to samples : ℕ) (c d : ℕ → ℕ → Float)
    → ((chunk j : ℕ) → from ≤ chunk → chunk < to → j < samples → c chunk j ≡ d chunk j)
    → sampled ieee power from to samples c ≡ sampled ieee power from to samples d
unfolding sampled
sampled-same power from to samples c d h =
    chunked-same (to - from) samples _ _ (λ i j b l. rw (h (from + i) j (omega arith) (omega arith) l))
