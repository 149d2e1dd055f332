-- The chunks so far are added.
use mathlib.Core.Path.{◌≡◌}
use Prim.Native.Nat.{◌≤◌}
use Rattle.run_record_totals.specs.Totals.{column_sum}
use Rattle.run_record_totals.proofs.column_sum.Given as goal

abbrev pub invariant-loop-c : goal.invariant-loop-c
invariant-loop-c l = (l.c ≤ l.chunks) × (l.total ≡ column_sum l.bytes l.per l.c l.offset l.k)
