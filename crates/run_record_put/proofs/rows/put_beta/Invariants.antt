-- The rows of the first p pairs are written.
use Prim.Native.Nat.{◌-◌, ◌≤◌}
use Rattle.job_sheet_put.specs.Behind.{Appended}
use Rattle.run_record_put.specs.Listed.{listed_beta}
use Rattle.run_record_put.proofs.rows.put_beta.Given as goal

abbrev pub invariant-loop-p : goal.invariant-loop-p
invariant-loop-p l = (l.p ≤ l.pairs) × Appended l.place (listed_beta l.chunk l.b l.first l.p l.squares l.fourths) l.initial.bytes l.bytes
