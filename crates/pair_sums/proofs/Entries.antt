-- A part of a list by its entries.
use mathlib.Core.Path.{◌≡◌}
use mathlib.Core.List.{List}
use Prim.Native.Nat.{ℕ, ◌+◌, ◌≤◌}
use lib.ListN.{length}
use lib.Ieee.{Float, nan}
use Rattle.list_laws.specs.Part.{part}
use Rattle.list_laws.proofs.Laws.Part.{part_length, part_at}
use Rattle.list_laws.specs.Tabulate.{tabulate}
use Rattle.list_laws.proofs.Laws.Tabulate.{tabulated}
use Rattle.step_tables.specs.Rule.{entries}

-- the entries of a part, by the rule that reads them
pub part-entries : (r : List Float) (at n : ℕ) → at + n ≤ length r → part r at n ≡ tabulate (entries r at) n
part-entries r at n h = tabulated nan (part r at n) (entries r at) n (part_length r at n h) (λ i b. part_at r at n i nan b)
