-- The first k totals are written.
use mathlib.Core.Path.{◌≡◌}
use Prim.Native.Nat.{◌≤◌}
use lib.ListN.{length}
use Rattle.list_laws.specs.Front.{over}
use Rattle.list_laws.specs.Tabulate.{tabulate}
use Rattle.run_record_totals.specs.Totals.{column_sum}
use Rattle.run_record_totals.proofs.fill_totals.Given as goal

abbrev pub invariant-loop-k : goal.invariant-loop-k
invariant-loop-k l =
    (l.totals ≡ over (tabulate (column_sum l.bytes (length l.initial.totals) l.chunks l.offset) l.k) l.initial.totals) × (l.k ≤ length l.initial.totals) × (length l.totals ≡ length l.initial.totals)
