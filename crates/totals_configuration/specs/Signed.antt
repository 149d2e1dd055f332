-- The jobs of a configuration's signs.
use Rattle.std.specs.Prelude.{Bool, List, ℕ, ◌<◌, Float}
use Rattle.transfer_matrix.specs.Job.{Job}
use Rattle.vertex_step.specs.Ready.{PlanOf}
use Rattle.totals_signs.specs.Signed.{factors_in_use}
use Rattle.totals_configuration.specs.declared.JobShape.{JobShape}

-- The plan is of the job at beta b with these signs of its m edges;
abbrev pub PlanOfSigns : Job Float → List ℕ → List Float → (m b : ℕ) → List Bool → JobShape → Type 0
PlanOfSigns J plan factors m b signs s = PlanOf J plan (factors_in_use factors m b signs) s.n s.w s.elementwise

-- of each beta's job;
abbrev pub PlanOfAll : (ℕ → Job Float) → List ℕ → List Float → ℕ → List Bool → JobShape → Type 0
PlanOfAll J plan factors m signs s = (b : ℕ) → b < s.betas → PlanOfSigns (J b) plan factors m b signs s

-- and of each configuration of a run, whose signs come by a rule.
abbrev pub PlanOfRun : (ℕ → ℕ → Job Float) → List ℕ → List Float → ℕ → (ℕ → List Bool) → JobShape → Type 0
PlanOfRun J plan factors m signs s = (j : ℕ) → PlanOfAll (J j) plan factors m (signs j) s
