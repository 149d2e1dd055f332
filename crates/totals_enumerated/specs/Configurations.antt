-- What an enumeration asks for, and which jobs it is of.
use Rattle.std.specs.Prelude.{◌≡◌, Bool, false, List, ℕ, ◌+◌, ◌*◌, ◌≤◌, ◌<◌, Float, length, get_or}
use Rattle.std.specs.Float.{nan}
use Rattle.list_laws.specs.Search.{some}
use Rattle.list_laws.specs.Tabulate.{tabulate}
use Rattle.transfer_matrix.specs.Job.{Job}
use Rattle.transfer_matrix.specs.Configuration.{enumerated_minus}
use Rattle.transfer_matrix.specs.Arithmetic.{sum}
use Rattle.transfer_matrix.specs.Rounded.{ieee}
use Rattle.transfer_matrix.specs.Totals.{square, fourth}
use Rattle.vertex_step.specs.Ready.{Backward}
use Rattle.totals_signs.specs.Fit.{BitsFit}
use Rattle.pair_correlations.specs.Sound.{unsound}
use Rattle.totals_configuration.specs.declared.JobShape.{JobShape}
use Rattle.totals_configuration.specs.Signed.{PlanOfSigns, PlanOfRun}
use Rattle.totals_configuration.specs.Powers.{pair_at, correlation_at}
use Rattle.totals_configuration.proofs.Laws.Sums.{PassedSoFar}

-- A bit or none, and a sign, for each edge; bits and numbers that fit.
pub record Enumerates (bits : List ℕ) (signs first size : ℕ) : Type 0 where
  pub matched : signs ≡ length bits
  pub bits_fit : BitsFit bits
  pub fits : first + size ≤ 18446744073709551615

-- The signs of configuration x.
abbrev pub enumerated_signs : List ℕ → ℕ → List Bool
enumerated_signs bits x = tabulate (enumerated_minus (λ e. get_or bits e 0) x) (length bits)

-- The plan is of the job of each configuration from number `first` on, at each beta;
abbrev pub PlanFrom : (ℕ → ℕ → Job Float) → List ℕ → List Float → List ℕ → (first : ℕ) → JobShape → Type 0
PlanFrom J plan factors bits first = PlanOfRun J plan factors (length bits) (λ j. enumerated_signs bits (first + j))

-- and at beta b.
abbrev pub PlanOfBeta : (ℕ → Job Float) → List ℕ → List Float → List ℕ → (first b : ℕ) → JobShape → Type 0
PlanOfBeta J plan factors bits first b s = (j : ℕ) → PlanOfSigns (J j) plan factors (length bits) b (enumerated_signs bits (first + j)) s

-- Before configuration j of a run at beta b: the signs and the kept backward vectors are those of the configuration before.
pub record Counting (plan us vs : List ℕ) (factors : List Float) (bits : List ℕ) (b first : ℕ) (s : JobShape) (j size : ℕ)
    (room₀ room : List Float) (signs₀ signs : List Bool) (c₀ c squares₀ squares fourths₀ fourths : List Float) : Type 0 where
  pub below : j ≤ size
  pub rooms : length room ≡ length room₀
  pub marks : length signs ≡ length signs₀
  pub results : length c ≡ length c₀
  pub squareds : length squares ≡ length squares₀
  pub fourthds : length fourths ≡ length fourths₀
  pub signed : (i : ℕ) → j ≡ i + 1 → signs ≡ enumerated_signs bits (first + i)
  pub stands : (J : ℕ → Job Float) → PlanOfBeta J plan factors bits first b s → (i : ℕ) → j ≡ i + 1 → Backward (J i) plan room s.n s.w 0
  pub passed : (J : ℕ → Job Float) → PlanOfBeta J plan factors bits first b s
      → PassedSoFar (λ i. unsound (J i) us vs) (λ i. pair_at (J i) us vs) j (length us) squares fourths

-- The first b betas of a chunk passed, and are summed.
pub record Summed (U : ℕ → ℕ → Bool) (c : ℕ → ℕ → Float) (size b n : ℕ) (squares fourths : List Float) : Type 0 where
  pub none : some (λ i. some (λ j. U j i) size) b ≡ false
  pub squared : (k : ℕ) → k < n → get_or squares k nan ≡ sum ieee size (λ j. square ieee (c j k))
  pub fourthed : (k : ℕ) → k < n → get_or fourths k nan ≡ sum ieee size (λ j. fourth ieee (c j k))

-- Before beta b of a chunk.
pub record Ranging (plan us vs : List ℕ) (factors : List Float) (bits : List ℕ) (first : ℕ) (s : JobShape) (size b : ℕ)
    (room₀ room : List Float) (signs₀ signs : List Bool) (c₀ c squares₀ squares fourths₀ fourths : List Float) : Type 0 where
  pub below : b ≤ s.betas
  pub rooms : length room ≡ length room₀
  pub marks : length signs ≡ length signs₀
  pub results : length c ≡ length c₀
  pub squareds : length squares ≡ length squares₀
  pub fourthds : length fourths ≡ length fourths₀
  pub summed : (J : ℕ → ℕ → Job Float) → PlanFrom J plan factors bits first s
      → Summed (λ j i. unsound (J j i) us vs) (λ j. correlation_at (J j) us vs) size b (b * length us) squares fourths
