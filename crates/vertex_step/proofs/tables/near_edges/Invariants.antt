use mathlib.Core.Path.{◌≡◌}
use Prim.Native.Nat.{◌-◌, ◌≤◌}
use lib.ListN.{length, get_or, drop}
use lib.Ieee.{nan}
use Rattle.plan_steps.specs.Layout.{near_count, near_edge, near_bit}
use Rattle.vertex_step.proofs.Entered.{Entered}
use Rattle.vertex_step.proofs.tables.near_edges.Given as goal

abbrev pub invariant-loop-i : goal.invariant-loop-i
invariant-loop-i l =
    (l.count ≡ near_count l.plan l.t) × (l.i ≤ l.count) × Entered nan (λ j. get_or (drop l.factors l.room) (near_edge l.plan l.t j) nan) l.x (length l.initial.x) l.i
    × Entered 0 (near_bit l.plan l.t) l.bits (length l.initial.bits) l.i
