-- The first i records are written.
use Prim.Native.Nat.{◌≤◌}
use lib.ListN.{length}
use Rattle.little_endian.specs.Rows.{rows}
use Rattle.job_sheet_put.specs.Behind.{Appended, raw_pair}
use Rattle.job_sheet_put.proofs.rows.put_pairs.Given as goal

abbrev pub invariant-loop-i : goal.invariant-loop-i
invariant-loop-i l = (l.i ≤ length l.us) × Appended l.place (rows (raw_pair l.us l.vs) l.i) l.initial.sheet l.sheet
