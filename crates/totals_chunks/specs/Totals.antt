-- Chunks of configurations: which signs each has, and the totals over them, for every beta and pair.
use Rattle.std.specs.Prelude.{◌≡◌, Bool, true, false, cond, not, List, ◌⊎◌, ℕ, ◌+◌, ◌-◌, ◌*◌, ◌≤◌, Float, length}
use Rattle.list_laws.specs.Search.{some}
use Rattle.list_laws.specs.Tabulate.{tabulate}
use Rattle.transfer_matrix.specs.Job.{Job}
use Rattle.transfer_matrix.specs.Rounded.{ieee}
use Rattle.transfer_matrix.specs.Totals.{square, fourth, sampled, chunk_size, chunk_count}
use Rattle.totals_signs.specs.Fit.{BitsFit}
use Rattle.totals_configuration.specs.declared.JobShape.{JobShape}
use Rattle.totals_configuration.specs.Powers.{correlation_at, unsound_betas}
use Rattle.totals_configuration.specs.Signed.{PlanOfRun}
use Rattle.totals_configuration.proofs.Laws.Chunked.{Chunked}
use Rattle.totals_enumerated.specs.Configurations.{enumerated_signs}
use Rattle.totals_sampled.specs.Samples.{sampled_signs}
use Rattle.totals_chunks.specs.declared.Chunks.{Chunks}

-- All configurations of so many free edges, by number;
abbrev pub all_chunks : ℕ → Chunks
all_chunks free = record { drawn = false; seed = 0; first = 0; end = chunk_count free; size = chunk_size free }

-- and samples that are drawn.
abbrev pub drawn_chunks : (seed from to samples : ℕ) → Chunks
drawn_chunks seed from to samples = record { drawn = true; seed = seed; first = from; end = to; size = samples }

-- The signs of configuration j of chunk i, by the bits of the edges.
abbrev pub signs_in : Chunks → List ℕ → (i j : ℕ) → List Bool
signs_in k bits i j = cond k.drawn (sampled_signs k.seed (length bits) i j) (enumerated_signs bits (i * k.size + j))

-- A bit or none, and a sign, for each edge; and, where configurations go by number, bits and numbers that fit.
pub record Summable (k : Chunks) (bits : List ℕ) (signs : ℕ) : Type 0 where
  pub matched : signs ≡ length bits
  pub bits_fit : k.drawn ≡ false → BitsFit bits
  pub fits : k.drawn ≡ false → k.end * k.size ≤ 18446744073709551615

-- The plan is of the job of each configuration, at each beta.
abbrev pub PlanOfChunks : (ℕ → ℕ → ℕ → Job Float) → List ℕ → List Float → List ℕ → Chunks → JobShape → Type 0
PlanOfChunks J plan factors bits k s = (i : ℕ) → PlanOfRun (J i) plan factors (length bits) (signs_in k bits i) s

-- Some pair's Z is not finite and above zero, at any beta and configuration.
abbrev pub unsound_chunks : (ℕ → ℕ → ℕ → Job Float) → List ℕ → List ℕ → ℕ → Chunks → Bool
unsound_chunks J us vs betas k = some (λ i. some (λ j. unsound_betas (J (k.first + i) j) us vs betas) k.size) (k.end - k.first)

-- The total of a power over the correlations c, by chunk, configuration and number, at each of n numbers.
abbrev pub totals_over : Chunks → (ℕ → ℕ → ℕ → Float) → ℕ → (Float → Float) → List Float
totals_over k c n power = tabulate (λ x. sampled ieee power k.first k.end k.size (λ i j. c i j x)) n

-- The totals of squares and of fourth powers.
pub record Totals (k : Chunks) (c : ℕ → ℕ → ℕ → Float) (n : ℕ) (squares fourths : List Float) : Type 0 where
  pub squared : squares ≡ totals_over k c n (square ieee)
  pub fourthed : fourths ≡ totals_over k c n (fourth ieee)

-- Whether every Z of the chunks was finite and above zero; then the lists hold the totals at each beta and pair.
abbrev pub ChunksSummed : (ℕ → ℕ → ℕ → Job Float) → (us vs : List ℕ) → (betas : ℕ) → Chunks → Bool → (squares fourths : List Float) → Type 0
ChunksSummed J us vs betas k sound squares fourths =
    (sound ≡ not (unsound_chunks J us vs betas k))
    × (sound ≡ true → Totals k (λ i j. correlation_at (J i j) us vs) (betas * length us) squares fourths)

-- No chunk, no configuration in it, or nothing to add up: the totals are zeros, and no Z is looked at.
abbrev pub Idle : (first end size n : ℕ) → Type 0
Idle first end size n = (end ≤ first) ⊎ ((size ≡ 0) ⊎ (n ≡ 0))

-- Before chunk i.
pub record Chunking (plan us vs : List ℕ) (factors : List Float) (bits : List ℕ) (k : Chunks) (s : JobShape) (i : ℕ)
    (room₀ room : List Float) (signs₀ signs : List Bool) (c₀ c p₀ p q₀ q squares₀ squares fourths₀ fourths : List Float) : Type 0 where
  pub above : k.first ≤ i
  pub below : i ≤ k.end
  pub rooms : length room ≡ length room₀
  pub marks : length signs ≡ length signs₀
  pub results : length c ≡ length c₀
  pub part-squareds : length p ≡ length p₀
  pub part-fourthds : length q ≡ length q₀
  pub squareds : length squares ≡ length squares₀
  pub fourthds : length fourths ≡ length fourths₀
  pub chunked : (J : ℕ → ℕ → ℕ → Job Float) → PlanOfChunks J plan factors bits k s
      → Chunked (λ h j. unsound_betas (J (k.first + h) j) us vs s.betas) (λ h j. correlation_at (J (k.first + h) j) us vs) k.size (i - k.first)
      (s.betas * length us) squares fourths
