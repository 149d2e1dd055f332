-- The vertices from c on, one by one.
use mathlib.Core.Path.{◌≡◌}
use Prim.Native.Nat.{ℕ, ◌+◌, ◌-◌, ◌≤◌, ◌<◌}
use Rattle.plan_steps.specs.Layout.{backward_place}
use Rattle.sweep_backward.proofs.kept_from.Given as goal

abbrev pub invariant-loop-t : goal.invariant-loop-t
invariant-loop-t l = (l.last + 1 ≡ l.n) × (l.c ≤ l.t) × ((u : ℕ) → l.c ≤ u → u < l.t → backward_place l.plan u ≡ 0)
