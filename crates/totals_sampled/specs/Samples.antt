-- The signs of samples, and which jobs a sampling is of.
use Rattle.std.specs.Prelude.{◌≡◌, Bool, List, ℕ, ◌*◌, ◌≤◌, Float, length}
use Rattle.rng.specs.Xoshiro.{streamed}
use Rattle.list_laws.specs.Search.{some}
use Rattle.list_laws.specs.Tabulate.{tabulate}
use Rattle.transfer_matrix.specs.Job.{Job}
use Rattle.transfer_matrix.specs.Configuration.{sampled_minus, drawn, words_per_sample}
use Rattle.pair_correlations.specs.Sound.{unsound}
use Rattle.totals_configuration.specs.declared.JobShape.{JobShape}
use Rattle.totals_configuration.specs.Signed.{PlanOfRun}
use Rattle.totals_configuration.specs.Powers.{correlation_at}
use Rattle.totals_configuration.proofs.Laws.Sums.{PassedSoFar}

-- The signs of a chunk's sample, of m edges.
abbrev pub sampled_signs : (seed m chunk sample : ℕ) → List Bool
sampled_signs seed m chunk sample = tabulate (sampled_minus seed m chunk sample) m

-- The plan is of the job of each of a chunk's samples, at each beta.
abbrev pub PlanOfSamples : (ℕ → ℕ → Job Float) → List ℕ → List Float → (m seed chunk : ℕ) → JobShape → Type 0
PlanOfSamples J plan factors m seed chunk = PlanOfRun J plan factors m (sampled_signs seed m chunk)

-- Before sample j of a chunk: its words begin where the generator stands.
pub record Sampling (plan us vs : List ℕ) (factors : List Float) (seed chunk : ℕ) (s : JobShape) (state : List ℕ) (j samples : ℕ)
    (room₀ room : List Float) (signs₀ signs : List Bool) (c₀ c squares₀ squares fourths₀ fourths : List Float) : Type 0 where
  pub below : j ≤ samples
  pub generator : state ≡ drawn (streamed seed chunk) (j * words_per_sample (length signs₀))
  pub rooms : length room ≡ length room₀
  pub marks : length signs ≡ length signs₀
  pub results : length c ≡ length c₀
  pub squareds : length squares ≡ length squares₀
  pub fourthds : length fourths ≡ length fourths₀
  pub passed : (J : ℕ → ℕ → Job Float) → PlanOfSamples J plan factors (length signs₀) seed chunk s
      → PassedSoFar (λ i. some (λ b. unsound (J i b) us vs) s.betas) (λ i. correlation_at (J i) us vs) j (s.betas * length us) squares fourths
