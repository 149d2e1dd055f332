-- The forward sweep before the step at t.
use Rattle.std.specs.Prelude.{◌≡◌, Bool, List, ℕ, ◌+◌, ◌≤◌, length, drop, Float}
use Rattle.transfer_matrix.specs.Job.{Job}
use Rattle.transfer_matrix.specs.Rounded.{ieee}
use Rattle.transfer_matrix.specs.Sweep as S
use Rattle.plan_steps.specs.Layout.{forward_place, backward_place}
use Rattle.half_vectors.specs.Symmetric.{SymmetricHalf}
use Rattle.pair_sums.specs.Terms.{half_at}
use Rattle.vertex_step.specs.Ready.{Ready, PlanOf, Forward}
use Rattle.sweep_places.specs.Target.{Free}
use Rattle.sweep_places.specs.Kept.{Since}

-- In job J the newest vector's half lies at place src, and its stored largest entry is `most`.
pub record NewestForward (J : Job Float) (plan : List ℕ) (r : List Float) (w scales t src : ℕ) (most : Float) : Type 0 where
  pub vector : SymmetricHalf w (half_at r w src) (S.before_step ieee J t).0
  pub entry : most ≡ (S.before_step ieee J t).1
  pub kept : Forward J plan r w scales t

-- The sweep began with the room r₀.
pub record ForwardInvariant (plan : List ℕ) (r₀ r : List Float) (n w scales : ℕ) (elementwise : Bool) (t src : ℕ) (most : Float) : Type 0 where
  pub below : t ≤ n
  pub ready : Ready plan (length r) n w scales
  pub since : Since (backward_place plan) r₀ r n w (scales + n)
  pub free : Free (forward_place plan) n w scales src (λ u. t ≤ u)
  pub newest : (J : Job Float) → PlanOf J plan (drop (scales + n) r₀) n w elementwise → NewestForward J plan r w scales t src most
