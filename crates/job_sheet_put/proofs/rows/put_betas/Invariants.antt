-- The first i records are written.
use Prim.Native.Nat.{◌≤◌}
use lib.ListN.{length}
use Rattle.little_endian.specs.Rows.{rows}
use Rattle.job_sheet_put.specs.Behind.{Appended, raw_beta}
use Rattle.job_sheet_put.proofs.rows.put_betas.Given as goal

abbrev pub invariant-loop-i : goal.invariant-loop-i
invariant-loop-i l = (l.i ≤ length l.betas) × Appended l.place (rows (raw_beta l.betas) l.i) l.initial.sheet l.sheet
