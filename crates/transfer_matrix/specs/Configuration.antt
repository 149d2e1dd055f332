-- The sign of each kept edge in a configuration, and the factors in use: of an enumerated configuration, and of a sample.
use Rattle.std.specs.Prelude.{Bool, cond, ◌&&◌, List, ℕ, zero, suc, ◌+◌, ◌*◌, ◌-◌, ◌/◌, ◌%◌, ◌^◌, length, get_or}
use Rattle.rng.specs.Xoshiro.{output, next, streamed}
use Rattle.edge_bits.specs.Having.{has_bit}
use Rattle.list_laws.specs.Bits.{bit}
use Rattle.list_laws.specs.Tabulate.{tabulate}
use Rattle.transfer_matrix.specs.Job.{Edge, Manner, Job}

-- ---- enumeration: each kept edge has a bit of the configuration's number, or none

-- Configuration c gives edge e minus where e has a bit and that bit of c is set.
unfoldable pub enumerated_minus : (ℕ → ℕ) → ℕ → ℕ → Bool
enumerated_minus bits c e = has_bit (bits e) && bit (bits e) c

-- ---- sampling

-- The generator after k words.
unfoldable pub drawn : List ℕ → ℕ → List ℕ
drawn s zero = s
drawn s (suc k) = next (drawn s k)

-- The words that a sample of m kept edges takes: a new one every 64 edges and for each sample.
abbrev pub words_per_sample : ℕ → ℕ
words_per_sample m = (m + 63) / 64

-- Chunk c uses `stream` of seed and c; lowest bit first, 0 for plus.
unfoldable pub sampled_minus : (seed m chunk sample e : ℕ) → Bool
unfolding drawn streamed
sampled_minus seed m chunk sample e =
    bit (e % 64) (output (drawn (streamed seed chunk) (sample * words_per_sample m + e / 64)))

-- ---- the factors in use

-- For beta b and kept edge e of m, two factors are lent: at 2 (b m + e) for sign plus and next to it for sign minus.
abbrev pub lent_at : (m b e : ℕ) → Bool → ℕ
lent_at m b e minus = 2 * (b * m + e) + cond minus 1 0

-- The kept edges, their ends in two lists, with the factor that a function gives each.
unfoldable pub edges_with : {K : Type 0} → List ℕ → List ℕ → (ℕ → K) → List (Edge K)
unfolding tabulate
edges_with early late factor = tabulate (λ e. record { early = get_or early e 0; late = get_or late e 0; factor = factor e }) (length early)

-- The edges alone: each has its number for a factor.
abbrev pub numbered : List ℕ → List ℕ → List (Edge ℕ)
numbered early late = edges_with early late (λ e. e)

-- The job of the kept edges with one factor each, of n vertices. No factor is lent past the list's end; `none` stands there.
abbrev pub job_of : {K : Type 0} → K → ℕ → ℕ → List ℕ → List ℕ → List K → Manner → Job K
job_of none n w early late lent manner = record {
  last = n - 1;
  window = w;
  edges = edges_with early late (λ e. get_or lent e none);
  manner = manner;
}

-- The kept edges at beta b, by the signs of a configuration. No factor is lent past the list's end; `none` stands there.
unfoldable pub configured : {K : Type 0} → K → List ℕ → List ℕ → List K → ℕ → (ℕ → Bool) → List (Edge K)
unfolding edges_with
configured none early late lent b minus = edges_with early late (λ e. get_or lent (lent_at (length early) b e (minus e)) none)
