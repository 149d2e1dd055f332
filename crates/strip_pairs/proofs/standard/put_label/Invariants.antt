-- The first j bytes of the label stand behind the front.
use Prim.Native.Nat.{◌≤◌}
use lib.ListN.{length}
use Rattle.strip_pairs.proofs.Pairing.{Putting}
use Rattle.strip_pairs.proofs.standard.put_label.Given as goal

abbrev pub invariant-loop-j : goal.invariant-loop-j
invariant-loop-j l = Putting l.name l.at l.j l.initial.labels l.labels × (l.j ≤ length l.name)
