-- The first j entries are filled; an iteration fills two more.
use mathlib.Core.Path.{◌≡◌}
use Prim.Native.Nat.{◌-◌, ◌%◌, ◌≤◌}
use lib.ListN.{length}
use Rattle.list_laws.specs.Part.{put}
use Rattle.list_laws.specs.Tabulate.{tabulate}
use Rattle.step_tables.specs.Rule.{entries}
use Rattle.half_vectors.specs.Antisymmetric.{alternate_half}
use Rattle.step_runs.proofs.alternate.alternate_run.Given as goal

abbrev pub invariant-loop-j : goal.invariant-loop-j
invariant-loop-j l =
    (length l.v ≡ length l.initial.v) × (l.j % 2 ≡ 0) × (l.j ≤ l.n) × (l.v ≡ put l.initial.v l.o (tabulate (alternate_half (entries l.initial.v l.s)) l.j))

abbrev pub decreases-loop-j : goal.decreases-loop-j
decreases-loop-j l = l.n - l.j
