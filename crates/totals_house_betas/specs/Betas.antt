-- A house call for totals, beta by beta.
use Rattle.std.specs.Prelude.{◌≡◌, false, List, ℕ, ◌≤◌, ◌<◌, Float, length, get_or}
use Rattle.std.specs.Float.{nan, binary64}
use Rattle.std.specs.Float.Ieee.{mul}
use Rattle.list_laws.specs.Tabulate.{tabulate}
use Rattle.coupling_grid.specs.Grid.{off_grid}
use Rattle.house_factors.specs.Factors.{paired_factors}
use Rattle.transfer_matrix.specs.Job.{Job}
use Rattle.transfer_matrix.specs.Room.{Arrangement}
use Rattle.plan_layout.specs.Plannable.{Plannable}
use Rattle.totals_configuration.specs.declared.JobShape.{JobShape}
use Rattle.totals_configuration.specs.Signed.{PlanOfRun}
use Rattle.totals_enumerated.specs.Configurations.{enumerated_signs}
use Rattle.totals_chunks.specs.declared.Chunks.{Chunks}
use Rattle.totals_chunks.specs.Totals.{PlanOfChunks}

-- The couplings of one beta: its product with each magnitude, rounded once.
unfoldable pub couplings_of : Float → List Float → List Float
couplings_of beta mag = tabulate (λ e. mul binary64 beta (get_or mag e nan)) (length mag)

-- The coupling of every beta and edge is on the grid.
abbrev pub OnGrid : (betas mag : List Float) → Type 0
OnGrid betas mag = (b e : ℕ) → b < length betas → e < length mag → off_grid (mul binary64 (get_or betas b nan) (get_or mag e nan)) ≡ false

-- A job that a plan can be made of, a magnitude for each of its edges, and couplings that are on the grid.
pub record HousePassed (arrangement : Arrangement) (n w : ℕ) (early late us vs : List ℕ) (mag betas : List Float) (work : ℕ) : Type 0 where
  pub job : Plannable arrangement n w early late us vs work
  pub few-betas : length betas ≤ 64
  pub matched : length mag ≡ length early
  pub on_grid : OnGrid betas mag

-- The jobs of beta b alone, whichever beta is asked for.
abbrev pub alone : {A : Type 0} → (ℕ → A) → ℕ → ℕ → A
alone J b _ = J b

-- The plan is of the job of each configuration at each beta, with the factors of that beta: of chunks,
abbrev pub PlanOfBetas : (ℕ → ℕ → ℕ → Job Float) → List ℕ → (mag betas : List Float) → List ℕ → Chunks → JobShape → Type 0
PlanOfBetas J plan mag betas bits k s =
    (b : ℕ) → b < length betas → PlanOfChunks (λ i j. alone (J i j) b) plan (paired_factors (couplings_of (get_or betas b nan) mag)) bits k s

-- and of configurations by number.
abbrev pub PlanOfNumbers : (ℕ → ℕ → Job Float) → List ℕ → (mag betas : List Float) → List ℕ → JobShape → Type 0
PlanOfNumbers J plan mag betas bits s =
    (b : ℕ) → b < length betas → PlanOfRun (λ x. alone (J x) b) plan (paired_factors (couplings_of (get_or betas b nan) mag)) (length bits) (enumerated_signs bits) s
