-- A search of the pairs.
use mathlib.Core.Path.{◌≡◌}
use mathlib.Core.Bool.{false}
use Prim.Native.Nat.{◌-◌, ◌≤◌}
use Rattle.list_laws.specs.Search.{some}
use Rattle.list_laws.proofs.Laws.Search.{start}
use Rattle.run_record.specs.Reading.{bad_pair}
use Rattle.run_record_reader.proofs.rows.bad_beta.Given as goal

abbrev pub invariant-loop-p : goal.invariant-loop-p
invariant-loop-p l = (l.p ≤ l.pairs) × (some (bad_pair l.bytes l.start l.samples l.betas l.pairs l.chunk l.beta) l.p ≡ false)
