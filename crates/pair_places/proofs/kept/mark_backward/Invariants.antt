-- Pair by pair: what the pairs so far ask for is marked.
use mathlib.Core.Path.{◌≡◌}
use Prim.Native.Nat.{◌-◌, ◌≤◌}
use lib.ListN.{length}
use Rattle.transfer_matrix.specs.Room.{arranged}
use Rattle.pair_places.proofs.Marks.{asks_backward, Asked}
use Rattle.pair_places.proofs.kept.mark_backward.Given as goal

abbrev pub invariant-loop-i : goal.invariant-loop-i
invariant-loop-i l = (l.i ≤ length l.us) × (length l.marks ≡ length l.initial.marks) × Asked l.marks (asks_backward (arranged l.less) l.w l.us l.vs) l.i
