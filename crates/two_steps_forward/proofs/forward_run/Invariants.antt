-- The first 4 i entries of the rule are filled; an iteration fills eight more.
use mathlib.Core.Path.{◌≡◌}
use Prim.Native.Nat.{◌*◌, ◌-◌, ◌%◌, ◌≤◌}
use lib.ListN.{length}
use Rattle.list_laws.specs.Part.{put}
use Rattle.list_laws.specs.Tabulate.{tabulate}
use Rattle.step_runs.proofs.Laws.Fours.{four}
use Rattle.two_steps_forward.proofs.ForwardIteration.{run_rule}
use Rattle.two_steps_forward.proofs.forward_run.Given as goal

abbrev pub invariant-loop-i : goal.invariant-loop-i
invariant-loop-i l =
    (length l.v ≡ length l.initial.v) × (l.i % 2 ≡ 0) × (l.i ≤ l.n)
    × (l.v ≡ put l.initial.v l.o (tabulate (run_rule l.ep l.sem l.em l.sep l.ep2 l.sem2 l.em2 l.sep2 (four l.p0 l.p1 l.p2 l.p3) (four l.q0 l.q1 l.q2 l.q3) (four l.e0 l.e1 l.e2 l.e3) (four l.f0 l.f1 l.f2 l.f3) l.a l.b l.c l.d l.n l.initial.v) (4 * l.i)))

abbrev pub decreases-loop-i : goal.decreases-loop-i
decreases-loop-i l = l.n - l.i
