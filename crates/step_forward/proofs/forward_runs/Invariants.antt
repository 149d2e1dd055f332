-- The entries up to the run at k are filled, and their largest is known; an iteration fills those of a run.
use mathlib.Core.Path.{◌≡◌}
use Prim.Native.Nat.{◌*◌, ◌-◌, ◌^◌}
use lib.ListN.{length}
use Rattle.list_laws.specs.Part.{Apart, put}
use Rattle.list_laws.specs.Tabulate.{tabulate}
use Rattle.step_tables.specs.Rule.{entries, from_end, weights, forward_rule}
use Rattle.step_runs.specs.AtRun.{Runs}
use Rattle.step_runs.proofs.Laws.AtRun.{AtRun}
use Rattle.largest_entry.specs.Top.{top}
use Rattle.step_forward.proofs.forward_runs.Given as goal

abbrev pub invariant-loop-k : goal.invariant-loop-k
invariant-loop-k l =
    (length l.v ≡ length l.initial.v) × Apart (length l.initial.v) l.src (2 * 2 ^ l.g) l.dst (2 * 2 ^ l.g) × Runs l.bits l.n l.g l.e l.end l.size l.one × AtRun l.e l.end l.k
    × (l.v ≡ put l.initial.v l.dst (tabulate (forward_rule l.ep l.sem l.em l.sep (weights l.bits l.n l.up) (weights l.bits l.n l.down) (entries l.initial.v l.src) (from_end l.initial.v l.src (2 * 2 ^ l.g))) (2 * l.k)))
    × (l.most ≡ top (forward_rule l.ep l.sem l.em l.sep (weights l.bits l.n l.up) (weights l.bits l.n l.down) (entries l.initial.v l.src) (from_end l.initial.v l.src (2 * 2 ^ l.g))) (2 * l.k))

abbrev pub decreases-loop-k : goal.decreases-loop-k
decreases-loop-k l = l.end - l.k
