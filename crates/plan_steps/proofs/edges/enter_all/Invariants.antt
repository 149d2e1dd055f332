-- Edge by edge: each row has what the edges so far say.
use mathlib.Core.Path.{◌≡◌}
use Prim.Native.Nat.{ℕ, ◌≤◌, ◌<◌}
use lib.ListN.{length}
use Rattle.plan_steps.specs.Rows.{Row}
use Rattle.plan_steps.proofs.edges.enter_all.Given as goal

abbrev pub invariant-loop-e : goal.invariant-loop-e
invariant-loop-e l =
    (l.e ≤ length l.early) × (length l.plan ≡ length l.initial.plan) × ((t : ℕ) → t < l.n → Row l.plan l.early l.late l.w l.e t)
