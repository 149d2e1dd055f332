-- The first 2 i entries of the rule are filled, and have passed the lanes; an iteration fills four more.
use mathlib.Core.Path.{◌≡◌}
use Prim.Native.Nat.{◌+◌, ◌*◌, ◌-◌, ◌%◌, ◌≤◌}
use lib.ListN.{length}
use Rattle.list_laws.specs.Part.{put}
use Rattle.list_laws.specs.Tabulate.{tabulate}
use Rattle.step_tables.specs.Rule.{entries, from_end, alternating, forward_rule}
use Rattle.largest_entry.proofs.Laws.Lanes.{Lanes}
use Rattle.step_forward.proofs.forward_run.Given as goal

abbrev pub invariant-loop-i : goal.invariant-loop-i
invariant-loop-i l =
    (length l.v ≡ length l.initial.v) × (l.i % 2 ≡ 0) × (l.i ≤ l.n)
    × (l.v ≡ put l.initial.v l.o (tabulate (forward_rule l.ep l.sem l.em l.sep (alternating l.p0 l.p1) (alternating l.q0 l.q1) (entries l.initial.v l.a) (from_end l.initial.v (l.b + 1 - l.n) l.n)) (2 * l.i)))
    × Lanes (λ k. forward_rule l.ep l.sem l.em l.sep (alternating l.p0 l.p1) (alternating l.q0 l.q1) (entries l.initial.v l.a) (from_end l.initial.v (l.b + 1 - l.n) l.n) (2 * k))
    (λ k. forward_rule l.ep l.sem l.em l.sep (alternating l.p0 l.p1) (alternating l.q0 l.q1) (entries l.initial.v l.a) (from_end l.initial.v (l.b + 1 - l.n) l.n) (2 * k + 1)) l.i l.m.a l.m.c l.m.b l.m.d

abbrev pub decreases-loop-i : goal.decreases-loop-i
decreases-loop-i l = l.n - l.i
