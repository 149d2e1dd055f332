-- Configurations that are stored, one after the other.
use Rattle.std.specs.Prelude.{◌≡◌, Bool, false, List, ℕ, ◌*◌, ◌≤◌, Float, length}
use Rattle.list_laws.specs.Search.{some}
use Rattle.transfer_matrix.specs.Job.{Job}
use Rattle.pair_correlations.specs.Sound.{unsound}
use Rattle.totals_configuration.specs.declared.JobShape.{JobShape}
use Rattle.totals_configuration.specs.Signed.{PlanOfRun}
use Rattle.totals_configuration.specs.Powers.{correlation_at}
use Rattle.totals_stored.specs.Stored.{Stored}
use Rattle.totals_enumerated.specs.Configurations.{enumerated_signs}

-- Before configuration x, where each is stored.
pub record Keeping (plan us vs : List ℕ) (factors : List Float) (bits : List ℕ) (s : JobShape) (x all : ℕ)
    (room₀ room : List Float) (signs₀ signs : List Bool) (c₀ c stored₀ stored : List Float) : Type 0 where
  pub below : x ≤ all
  pub rooms : length room ≡ length room₀
  pub marks : length signs ≡ length signs₀
  pub results : length c ≡ length c₀
  pub storeds : length stored ≡ length stored₀
  pub so_far : (J : ℕ → ℕ → Job Float) → PlanOfRun J plan factors (length bits) (enumerated_signs bits) s → (some (λ y. some (λ b. unsound (J y b) us vs) s.betas) x ≡ false)
      × Stored (λ y. correlation_at (J y) us vs) all (s.betas * length us) x 0 stored
