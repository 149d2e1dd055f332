-- A search of the betas.
use mathlib.Core.Path.{◌≡◌}
use mathlib.Core.Bool.{false}
use Prim.Native.Nat.{◌-◌, ◌≤◌}
use Rattle.list_laws.specs.Search.{some}
use Rattle.list_laws.proofs.Laws.Search.{start}
use Rattle.run_record.specs.Reading.{bad_beta}
use Rattle.run_record_reader.proofs.rows.bad_chunk.Given as goal

abbrev pub invariant-loop-b : goal.invariant-loop-b
invariant-loop-b l = (l.b ≤ l.betas) × (some (bad_beta l.bytes l.start l.samples l.betas l.pairs l.chunk) l.b ≡ false)
