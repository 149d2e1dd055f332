-- The backward sweep before the step at t.
use Rattle.std.specs.Prelude.{◌≡◌, Bool, List, ℕ, ◌+◌, ◌-◌, ◌<◌, length, drop, Float}
use Rattle.transfer_matrix.specs.Job.{Job}
use Rattle.transfer_matrix.specs.Rounded.{ieee}
use Rattle.transfer_matrix.specs.Sweep as S
use Rattle.plan_steps.specs.Layout.{forward_place, backward_place}
use Rattle.step_tables.specs.Place.{held}
use Rattle.half_vectors.specs.Symmetric.{SymmetricHalf}
use Rattle.pair_sums.specs.Terms.{half_at}
use Rattle.vertex_step.specs.Ready.{Ready, PlanOf, Backward}
use Rattle.sweep_places.specs.Target.{Free}
use Rattle.sweep_places.specs.Kept.{Since}

-- In job J the newest vector's half lies at place src, and its stored largest entry is `most`.
pub record NewestBackward (J : Job Float) (plan : List ℕ) (r : List Float) (n w t src : ℕ) (most : Float) : Type 0 where
  pub vector : SymmetricHalf w (half_at r w src) (S.after_steps ieee J (J.last - t)).0
  pub entry : most ≡ (S.after_steps ieee J (J.last - t)).1
  pub kept : Backward J plan r n w t

-- The sweep began with the room r₀; Given is what was known then of a job. What is kept below t is as it was.
pub record BackwardInvariant (plan : List ℕ) (r₀ r : List Float) (n w scales : ℕ) (elementwise : Bool) (Given : Job Float → Type 0) (t src : ℕ)
    (most : Float) : Type 0 where
  pub below : t < n
  pub ready : Ready plan (length r) n w scales
  pub since : Since (forward_place plan) r₀ r n w scales
  pub free : Free (backward_place plan) n w scales src (λ u. u < t)
  pub ahead : (u : ℕ) → u < t → 0 < backward_place plan u → held r w (backward_place plan u) ≡ held r₀ w (backward_place plan u)
  pub newest : (J : Job Float) → PlanOf J plan (drop (scales + n) r₀) n w elementwise → Given J → NewestBackward J plan r n w t src most
