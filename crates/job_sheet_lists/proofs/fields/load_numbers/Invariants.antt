-- The first i fields are loaded.
use mathlib.Core.Path.{◌≡◌}
use Prim.Native.Nat.{◌+◌, ◌*◌, ◌≤◌}
use lib.ListN.{length}
use Rattle.list_laws.specs.Front.{over}
use Rattle.list_laws.specs.Tabulate.{tabulate}
use Rattle.little_endian.specs.Words.{word_at}
use Rattle.job_sheet_lists.proofs.fields.load_numbers.Given as goal

abbrev pub invariant-loop-i : goal.invariant-loop-i
invariant-loop-i l =
    (l.out ≡ over (tabulate (λ j. word_at l.sheet (l.place + l.step * j + l.offset) 2) l.i) l.initial.out) × (l.i ≤ l.count) × (length l.out ≡ length l.initial.out)
