-- The rows of the first b betas are written.
use Prim.Native.Nat.{◌-◌, ◌≤◌}
use Rattle.job_sheet_put.specs.Behind.{Appended}
use Rattle.run_record_put.proofs.Laws.Rows.{first_betas}
use Rattle.run_record_put.proofs.rows.put_chunk.Given as goal

abbrev pub invariant-loop-b : goal.invariant-loop-b
invariant-loop-b l = (l.b ≤ l.head.betas) × Appended l.place (first_betas l.head l.c l.squares l.fourths l.b) l.initial.bytes l.bytes
