-- Pair by pair: what the pairs so far ask for is marked.
use mathlib.Core.Path.{◌≡◌}
use Prim.Native.Nat.{◌-◌, ◌≤◌}
use lib.ListN.{length}
use Rattle.pair_places.proofs.Marks.{asks_forward, Asked}
use Rattle.pair_places.proofs.kept.mark_forward.Given as goal

abbrev pub invariant-loop-i : goal.invariant-loop-i
invariant-loop-i l = (l.i ≤ length l.us) × (length l.marks ≡ length l.initial.marks) × Asked l.marks (asks_forward l.w l.us l.vs) l.i
