-- What the run of one configuration asks for.
use Rattle.std.specs.Prelude.{◌≡◌, List, ℕ, ◌+◌, ◌*◌, ◌≤◌, length}
use Rattle.limits.specs.Limits.{most_betas, most_edges}
use Rattle.pair_order.specs.Order.{InOrder}
use Rattle.vertex_step.specs.Ready.{Ready}
use Rattle.pair_correlations.specs.Served.{Served}
use Rattle.totals_configuration.specs.declared.JobShape.{JobShape}

-- A planned job of m edges with its pairs and their order, a room of `end` numbers that its factors close, and a result for each pair.
pub record Stage (plan us vs order : List ℕ) (m : ℕ) (s : JobShape) (end results : ℕ) : Type 0 where
  pub some : 1 ≤ s.n
  pub ready : Ready plan end s.n s.w s.scales
  pub ends : s.scales + s.n + m ≡ end
  pub served : Served plan us vs s.n s.w s.less
  pub ordered : InOrder order us vs s.w
  pub fitting : results ≡ length us

-- Two factors are lent for each of m edges at each of the first betas.
pub record EnoughFactors (factors m betas : ℕ) : Type 0 where
  pub enough : 2 * (betas * m) ≤ factors
  pub few : betas * m ≤ most_betas * most_edges
