-- What the sums hold on their way through the betas of one configuration.
use Rattle.std.specs.Prelude.{◌≡◌, Bool, false, List, ℕ, ◌*◌, ◌≤◌, Float, length, get_or}
use Rattle.std.specs.Float.{nan, binary64}
use Rattle.std.specs.Float.Ieee.{add}
use Rattle.list_laws.specs.Part.{put}
use Rattle.list_laws.specs.Search.{some}
use Rattle.list_laws.specs.Tabulate.{tabulate}
use Rattle.transfer_matrix.specs.Job.{Job}
use Rattle.transfer_matrix.specs.Rounded.{ieee}
use Rattle.transfer_matrix.specs.Totals.{square, fourth}
use Rattle.pair_correlations.specs.Sound.{unsound}
use Rattle.totals_configuration.specs.declared.JobShape.{JobShape}
use Rattle.totals_configuration.specs.Signed.{PlanOfAll}
use Rattle.totals_configuration.specs.Powers.{correlation_at}

-- the first n numbers of a list with a term added to each; the others as they were
abbrev pub partly : List Float → ℕ → (ℕ → Float) → List Float
partly l n term = put l 0 (tabulate (λ k. add binary64 (get_or l k nan) (term k)) n)

-- The first b betas passed, and the powers of their correlations were added.
pub record SoFar (J : ℕ → Job Float) (us vs : List ℕ) (b : ℕ) (squares₀ squares fourths₀ fourths : List Float) : Type 0 where
  pub sound : some (λ i. unsound (J i) us vs) b ≡ false
  pub squared : squares ≡ partly squares₀ (b * length us) (λ k. square ieee (correlation_at J us vs k))
  pub fourthed : fourths ≡ partly fourths₀ (b * length us) (λ k. fourth ieee (correlation_at J us vs k))

-- Before beta b.
pub record Betas (plan us vs : List ℕ) (factors : List Float) (signs : List Bool) (s : JobShape) (b : ℕ)
    (room₀ room c₀ c squares₀ squares fourths₀ fourths : List Float) : Type 0 where
  pub below : b ≤ s.betas
  pub rooms : length room ≡ length room₀
  pub results : length c ≡ length c₀
  pub squareds : length squares ≡ length squares₀
  pub fourthds : length fourths ≡ length fourths₀
  pub so_far : (J : ℕ → Job Float) → PlanOfAll J plan factors (length signs) signs s → SoFar J us vs b squares₀ squares fourths₀ fourths
