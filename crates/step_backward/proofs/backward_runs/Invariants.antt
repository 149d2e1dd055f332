-- The entries up to the run at k are filled, from both ends, and their largest is known; an iteration fills those of a run.
use mathlib.Core.Path.{◌≡◌}
use Prim.Native.Nat.{◌+◌, ◌*◌, ◌-◌, ◌^◌}
use lib.ListN.{length}
use Rattle.list_laws.specs.Part.{Apart}
use Rattle.step_tables.specs.Rule.{entries, weights, backward_rule}
use Rattle.step_runs.specs.AtRun.{Runs}
use Rattle.step_runs.proofs.Laws.AtRun.{AtRun}
use Rattle.largest_entry.specs.Larger.{larger}
use Rattle.largest_entry.specs.Top.{top}
use Rattle.step_backward.specs.Ends.{ends}
use Rattle.step_backward.proofs.backward_runs.Given as goal

abbrev pub invariant-loop-k : goal.invariant-loop-k
invariant-loop-k l =
    (length l.v ≡ length l.initial.v) × Apart (length l.initial.v) l.src (2 * 2 ^ l.g) l.dst (2 * 2 ^ l.g) × Runs l.bits l.n l.g l.e l.end l.size l.one × AtRun l.e l.end l.k
    × (l.v ≡ ends l.initial.v l.dst (l.dst + 2 * l.end) (backward_rule l.ep l.em (weights l.bits l.n l.up) (weights l.bits l.n l.down) (entries l.initial.v l.src))
    (backward_rule l.em l.ep (weights l.bits l.n l.up) (weights l.bits l.n l.down) (entries l.initial.v l.src)) l.k)
    × (l.most ≡ larger (top (backward_rule l.ep l.em (weights l.bits l.n l.up) (weights l.bits l.n l.down) (entries l.initial.v l.src)) l.k)
    (top (backward_rule l.em l.ep (weights l.bits l.n l.up) (weights l.bits l.n l.down) (entries l.initial.v l.src)) l.k))

abbrev pub decreases-loop-k : goal.decreases-loop-k
decreases-loop-k l = l.end - l.k
