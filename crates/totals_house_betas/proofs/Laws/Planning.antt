-- The plan of a house call: of each beta's jobs, with the factors of that beta.
use Rattle.std.specs.Prelude.{◌≡◌, refl, Bool, false, List, ℕ, ◌*◌, ◌≤◌, Float, length, get_or}
use Rattle.std.proofs.Common.{subst, arith}
use Rattle.std.specs.Float.{nan}
use Rattle.forest.specs.FreeEdges.{bits_of, bit_of}
use Rattle.house_factors.specs.Factors.{paired_factors}
use Rattle.refusals.specs.Couplings.{all_couplings}
use Rattle.transfer_matrix.specs.Job.{Job}
use Rattle.transfer_matrix.specs.Room.{Arrangement}
use Rattle.transfer_matrix.specs.Configuration.{enumerated_minus}
use Rattle.plan_layout.specs.Work.{Planned}
use Rattle.vertex_step.specs.Ready.{PlanOf}
use Rattle.totals_signs.specs.Signed.{factors_in_use}
use Rattle.totals_configuration.specs.declared.JobShape.{JobShape}
use Rattle.totals_enumerated.specs.Configurations.{enumerated_signs}
use Rattle.totals_chunks.specs.declared.Chunks.{Chunks}
use Rattle.totals_chunks.specs.Totals.{signs_in}
use Rattle.totals_call.specs.Jobs.{minus_in, job_enumerated, job_in}
use Rattle.totals_call.specs.Finished.{Passed, stepping}
use Rattle.totals_call.proofs.Laws.Signing.{numbered_plan, chunked_plan}
use Rattle.totals_house_betas.specs.Betas.{couplings_of, HousePassed, PlanOfBetas, PlanOfNumbers}
use Rattle.totals_house_betas.proofs.Laws.Factors.{job-same}

-- a job that passed, as a job with one beta
pub of-one-beta : {A : Arrangement} {n w : ℕ} {early late us vs : List ℕ} {mag betas : List Float} {work : ℕ}
    → HousePassed A n w early late us vs mag betas work → Passed A n w early late us vs (2 * (1 * length early)) 1 work
of-one-beta p = record { job = p.job; few-betas = omega arith; factored = refl }

module _ (A : Arrangement) (plan early late us vs : List ℕ) (n w places scales at end : ℕ) (g : Planned A plan early late us vs n w places scales at end) (some : 1 ≤ n)
    (mag betas : List Float) (matched : length mag ≡ length early) (elementwise less : Bool) where
  abbrev one_beta : JobShape
  one_beta = record { n = n; w = w; scales = scales; elementwise = elementwise; less = less; betas = 1 }

  abbrev factors_at : ℕ → List Float
  factors_at b = paired_factors (couplings_of (get_or betas b nan) mag)

  pub chunks_plan : (k : Chunks) (bits : List ℕ) → length bits ≡ length early → (k.drawn ≡ false → bits ≡ bits_of early late)
      → PlanOfBetas (job_in n w early late (paired_factors (all_couplings betas mag)) (stepping elementwise) k) plan mag betas bits k one_beta
  chunks_plan k bits long given b h i j b' l =
      subst (λ (J : Job Float). PlanOf J plan (factors_in_use (factors_at b) (length bits) b' (signs_in k bits i j)) n w elementwise)
      (job-same mag betas b h n w early late (stepping elementwise) (minus_in early late k i j) b' matched l)
      (chunked_plan A plan early late us vs n w places scales at end g some (factors_at b) elementwise less 1 k bits long given i j b' l)

  pub numbers_plan : (bits : List ℕ) → bits ≡ bits_of early late
      → PlanOfNumbers (job_enumerated n w early late (paired_factors (all_couplings betas mag)) (stepping elementwise)) plan mag betas bits one_beta
  numbers_plan bits given b h x b' l =
      subst (λ (J : Job Float). PlanOf J plan (factors_in_use (factors_at b) (length bits) b' (enumerated_signs bits x)) n w elementwise)
      (job-same mag betas b h n w early late (stepping elementwise) (enumerated_minus (bit_of early late) x) b' matched l)
      (numbered_plan A plan early late us vs n w places scales at end g some (factors_at b) elementwise less 1 bits given x b' l)
