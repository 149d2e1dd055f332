-- The pairs from k on are of vertex v.
use mathlib.Core.Path.{◌≡◌}
use Prim.Native.Nat.{ℕ, ◌≤◌, ◌<◌}
use lib.ListN.{get_or}
use Rattle.transfer_matrix.specs.Room.{later}
use Rattle.sweep_answering.proofs.first_of.Given as goal

abbrev pub invariant-loop-k : goal.invariant-loop-k
invariant-loop-k l = (l.k ≤ l.left) × ((j : ℕ) → l.k ≤ j → j < l.left → later l.us l.vs (get_or l.order j 0) ≡ l.v)
