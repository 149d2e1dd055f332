-- Vertex by vertex.
use mathlib.Core.Path.{◌≡◌}
use Prim.Native.Nat.{◌≤◌}
use lib.ListN.{length}
use Rattle.plan_steps.proofs.Entering.{Cleared}
use Rattle.plan_steps.proofs.edges.clear_rows.Given as goal

abbrev pub invariant-loop-t : goal.invariant-loop-t
invariant-loop-t l = (l.t ≤ l.n) × (length l.plan ≡ length l.initial.plan) × Cleared l.plan l.t
