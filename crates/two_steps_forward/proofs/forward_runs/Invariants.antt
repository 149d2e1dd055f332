-- The entries up to the run at k are filled; an iteration fills those of a run.
use mathlib.Core.Path.{◌≡◌}
use Prim.Native.Nat.{◌*◌, ◌-◌, ◌^◌}
use lib.ListN.{length}
use Rattle.list_laws.specs.Part.{Apart, put}
use Rattle.list_laws.specs.Tabulate.{tabulate}
use Rattle.step_runs.specs.AtRun.{TwoRuns}
use Rattle.step_runs.proofs.Laws.AtRun.{AtRun}
use Rattle.two_steps_forward.proofs.ForwardRuns.{step_rule}
use Rattle.two_steps_forward.proofs.forward_runs.Given as goal

abbrev pub invariant-loop-k : goal.invariant-loop-k
invariant-loop-k l =
    (length l.v ≡ length l.initial.v) × Apart (length l.initial.v) l.src (2 * 2 ^ l.h) l.dst (2 * 2 ^ l.h)
    × TwoRuns l.bits l.n l.bits2 l.n2 (l.h - 1) l.h l.e l.end l.quarter l.size l.one l.low l.two × AtRun l.e l.end l.k
    × (l.v ≡ put l.initial.v l.dst (tabulate (step_rule l.ep l.sem l.em l.sep l.ep2 l.sem2 l.em2 l.sep2 l.bits l.n l.up l.down l.bits2 l.n2 l.up2 l.down2 l.h l.src l.initial.v) (4 * l.k))) × (l.quarter ≡ 2 * l.end)

abbrev pub decreases-loop-k : goal.decreases-loop-k
decreases-loop-k l = l.end - l.k
