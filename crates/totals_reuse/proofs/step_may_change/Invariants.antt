-- The left edge, then the near edges, one by one.
use Prim.Native.Nat.{ℕ, ◌≤◌, ◌<◌}
use Rattle.plan_steps.specs.Layout.{near_edge}
use Rattle.totals_reuse.specs.Settled.{Settled}
use Rattle.totals_reuse.proofs.step_may_change.Given as goal

abbrev pub invariant-loop-i : goal.invariant-loop-i
invariant-loop-i l = (l.i ≤ l.near) × ((k : ℕ) → k < l.i → Settled l.bits l.last (near_edge l.plan l.t k))
