-- Totals over configurations: squares and fourth powers of the correlations of one beta and pair, summed chunk by chunk.
use Rattle.std.specs.Prelude.{ℕ, ◌+◌, ◌*◌, ◌-◌, ◌/◌, ◌^◌, min}
use Rattle.transfer_matrix.specs.Arithmetic.{Ops, sum}

-- Chunks of an enumeration hold 1,024 configurations, or all if fewer.
abbrev pub chunk_size : ℕ → ℕ
chunk_size free = min 1024 (2 ^ free)

abbrev pub chunk_count : ℕ → ℕ
chunk_count free = 2 ^ free / chunk_size free

-- An enumeration counts 2 ^ free configurations.
abbrev pub enumerated_count : ℕ → ℕ
enumerated_count free = 2 ^ free

-- Sampling counts chunks (end less start) times samples per chunk, 0 where the end isn't above the start.
abbrev pub sampled_count : (from to samples : ℕ) → ℕ
sampled_count from to samples = (to - from) * samples

module _ (O : Ops) where
  open O use {K, ◌⊗◌}

  infixl 70 ◌⊗◌
  -- Each power is rounded at every product: the fourth power is the square's square.
  abbrev pub square : K → K
  square c = c ⊗ c

  abbrev pub fourth : K → K
  fourth c = square c ⊗ square c

  -- Each chunk is summed from zero, then the chunks are added in order.
  unfoldable pub chunked : (chunks size : ℕ) → (ℕ → ℕ → K) → K
  unfolding sum
  chunked n m x = sum O n (λ i. sum O m (x i))

  -- A power p summed over the enumerated correlations c, by the configuration's number.
  unfoldable pub enumerated : (K → K) → ℕ → (ℕ → K) → K
  unfolding chunked
  enumerated p free c = chunked (chunk_count free) (chunk_size free) (λ i j. p (c (i * chunk_size free + j)))

  -- A power p summed over the sampled correlations c, by the chunk and the sample in it; no chunk if the end isn't above the start.
  unfoldable pub sampled : (K → K) → (from to samples : ℕ) → (ℕ → ℕ → K) → K
  unfolding chunked
  sampled p from to samples c = chunked (to - from) samples (λ i j. p (c (from + i) j))
