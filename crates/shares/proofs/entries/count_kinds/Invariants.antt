-- By the counts so far of each kind.
use mathlib.Core.Path.{◌≡◌}
use Prim.Native.Nat.{◌≤◌}
use lib.ListN.{length}
use Rattle.list_laws.specs.Count.{count}
use Rattle.shares.specs.Shares.{at, is_above, is_below, is_half, bad_entry}
use Rattle.shares.proofs.entries.count_kinds.Given as goal

abbrev pub invariant-loop-x : goal.invariant-loop-x
invariant-loop-x l =
    (l.x-index ≤ length l.stored) × (l.bad ≡ count (λ j. bad_entry (at l.stored j)) l.x-index) × (l.above ≡ count (λ j. is_above (at l.stored j)) l.x-index)
    × (l.below ≡ count (λ j. is_below (at l.stored j)) l.x-index) × (l.half ≡ count (λ j. is_half (at l.stored j)) l.x-index)
