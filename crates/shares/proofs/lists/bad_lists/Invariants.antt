-- A search of the lengths that adds them on its way.
use mathlib.Core.Path.{◌≡◌}
use mathlib.Core.Bool.{false}
use Prim.Native.Nat.{◌*◌, ◌≤◌}
use lib.ListN.{length, get_or}
use Rattle.list_laws.specs.Search.{some}
use Rattle.shares.specs.Shares.{most_entries, bad_length, start_of}
use Rattle.shares.proofs.lists.bad_lists.Given as goal

abbrev pub invariant-loop-entries : goal.invariant-loop-entries
invariant-loop-entries l =
    (l.entries-index ≤ length l.lengths) × (some (λ j. bad_length (get_or l.lengths j 0)) l.entries-index ≡ false) × (l.total ≡ start_of l.lengths l.entries-index) × (l.total ≤ l.entries-index * most_entries)
