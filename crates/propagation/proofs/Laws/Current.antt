-- Laws of what specs/Current defines.
use Rattle.std.specs.Prelude.{Bool, List, ℕ, length, Float}
use Rattle.transfer_matrix.specs.Job.{Job}
use Rattle.vertex_step.specs.Ready.{Ready, Still}
use Rattle.vertex_step.proofs.Laws.Ready.{still-swept, tail-factors}
use Rattle.propagation.specs.Current.{PlanSwept}

-- it is so where only the moving places were written since
pub still-passed : (J : Job Float) (plan : List ℕ) (r₀ r : List Float) (n w scales : ℕ) (elementwise : Bool) → Ready plan (length r₀) n w scales
    → Still r₀ r w scales → PlanSwept J plan r₀ n w scales elementwise → PlanSwept J plan r n w scales elementwise
still-passed J plan r₀ r n w scales elementwise p s g =
    record { of = rw (tail-factors r₀ r scales n s.tail) g.of; swept = still-swept J plan r₀ r n w scales p s g.swept }
