-- A search of the chunks.
use mathlib.Core.Path.{◌≡◌}
use mathlib.Core.Bool.{false}
use Prim.Native.Nat.{◌-◌, ◌≤◌}
use Rattle.list_laws.specs.Search.{some}
use Rattle.list_laws.proofs.Laws.Search.{start}
use Rattle.run_record.specs.Reading.{bad_chunk}
use Rattle.run_record_reader.proofs.rows.bad_chunks.Given as goal

abbrev pub invariant-loop-c : goal.invariant-loop-c
invariant-loop-c l = (l.c ≤ l.chunks) × (some (bad_chunk l.bytes l.start l.samples l.betas l.pairs) l.c ≡ false)
