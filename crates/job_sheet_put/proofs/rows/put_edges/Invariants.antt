-- The first i records are written.
use Prim.Native.Nat.{◌≤◌}
use lib.ListN.{length}
use Rattle.little_endian.specs.Rows.{rows}
use Rattle.job_sheet_put.specs.Behind.{Appended, raw_edge}
use Rattle.job_sheet_put.proofs.rows.put_edges.Given as goal

abbrev pub invariant-loop-i : goal.invariant-loop-i
invariant-loop-i l = (l.i ≤ length l.a) × Appended l.place (rows (raw_edge l.a l.b l.m) l.i) l.initial.sheet l.sheet
