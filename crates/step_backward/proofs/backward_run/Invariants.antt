-- The first i entries from both ends are filled, and have passed the lanes; an iteration fills two more of each.
use mathlib.Core.Path.{◌≡◌}
use Prim.Native.Nat.{◌-◌, ◌%◌, ◌≤◌}
use lib.ListN.{length}
use Rattle.step_tables.specs.Rule.{entries, alternating, backward_rule}
use Rattle.largest_entry.proofs.Laws.Lanes.{Lanes}
use Rattle.step_backward.specs.Ends.{ends}
use Rattle.step_backward.proofs.backward_run.Given as goal

abbrev pub invariant-loop-i : goal.invariant-loop-i
invariant-loop-i l =
    (length l.v ≡ length l.initial.v) × (l.i % 2 ≡ 0) × (l.i ≤ l.n)
    × (l.v ≡ ends l.initial.v l.lo l.hi (backward_rule l.ep l.em (alternating l.p0 l.p1) (alternating l.q0 l.q1) (entries l.initial.v l.s))
    (backward_rule l.em l.ep (alternating l.p0 l.p1) (alternating l.q0 l.q1) (entries l.initial.v l.s)) l.i)
    × Lanes (backward_rule l.ep l.em (alternating l.p0 l.p1) (alternating l.q0 l.q1) (entries l.initial.v l.s)) (backward_rule l.em l.ep (alternating l.p0 l.p1) (alternating l.q0 l.q1) (entries l.initial.v l.s)) l.i
    l.m.a l.m.b l.m.d l.m.c

abbrev pub decreases-loop-i : goal.decreases-loop-i
decreases-loop-i l = l.n - l.i
