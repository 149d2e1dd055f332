-- The most of the counts passed.
use mathlib.Core.Path.{◌≡◌}
use Prim.Native.Nat.{◌≤◌}
use Rattle.list_laws.specs.Most as M
use Rattle.plan_steps.specs.Layout.{near_count}
use Rattle.error_bound.proofs.near.most_planned.Given as goal

abbrev pub invariant-loop-t : goal.invariant-loop-t
invariant-loop-t l = (l.near ≡ M.most (near_count l.plan) l.t) × (l.t ≤ l.n)
