-- The sums of squares and fourth powers over some configurations, for every beta and pair.
use Rattle.std.specs.Prelude.{◌≡◌, Bool, true, not, List, ℕ, ◌*◌, Float, length}
use Rattle.list_laws.specs.Search.{some}
use Rattle.list_laws.specs.Tabulate.{tabulate}
use Rattle.transfer_matrix.specs.Arithmetic.{sum}
use Rattle.transfer_matrix.specs.Job.{Job}
use Rattle.transfer_matrix.specs.Rounded.{ieee}
use Rattle.transfer_matrix.specs.Totals.{square, fourth}
use Rattle.totals_configuration.specs.Powers.{correlation_at, unsound_betas}

-- n sums of the first j terms that a rule gives, from zero.
abbrev pub sums_of : (ℕ → ℕ → Float) → (j n : ℕ) → List Float
sums_of term j n = tabulate (λ k. sum ieee j (λ i. term i k)) n

-- The powers of the first j configurations' correlations, summed from zero.
pub record Sums (c : ℕ → ℕ → Float) (j n : ℕ) (squares fourths : List Float) : Type 0 where
  pub squared : squares ≡ sums_of (λ i k. square ieee (c i k)) j n
  pub fourthed : fourths ≡ sums_of (λ i k. fourth ieee (c i k)) j n

-- Whether every Z of a run of configurations was finite and above zero; then the lists hold the sums at each beta and pair.
abbrev pub RunSummed : (ℕ → ℕ → Job Float) → (us vs : List ℕ) → (betas size : ℕ) → Bool → (squares fourths : List Float) → Type 0
RunSummed J us vs betas size sound squares fourths =
    (sound ≡ not (some (λ j. unsound_betas (J j) us vs betas) size))
    × (sound ≡ true → Sums (λ j. correlation_at (J j) us vs) size (betas * length us) squares fourths)
