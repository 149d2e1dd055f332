-- Edge by edge: each count is no less than the row so far.
use mathlib.Core.Path.{◌≡◌}
use Prim.Native.Nat.{◌≤◌}
use lib.ListN.{length}
use Rattle.plan_steps.specs.Rows.{Counts}
use Rattle.plan_steps.proofs.edges.count_near.Given as goal

abbrev pub invariant-loop-e : goal.invariant-loop-e
invariant-loop-e l = (l.e ≤ length l.early) × (length l.counts ≡ length l.initial.counts) × Counts l.counts l.early l.late l.n l.w l.e
