-- What stands of the backward vectors where factors change: those from vertex c on, if no edge of a step above c changed its factor.
use Rattle.std.specs.Prelude.{List, ℕ, ◌-◌, ◌<◌}
use Rattle.plan_steps.specs.Layout.{left_edge, near_count, near_edge}

-- P holds of every edge that the step at t reads.
pub record Reads (plan : List ℕ) (t : ℕ) (P : ℕ → Type 0) : Type 0 where
  pub left : 0 < left_edge plan t → P (left_edge plan t - 1)
  pub near : (i : ℕ) → i < near_count plan t → P (near_edge plan t i)
