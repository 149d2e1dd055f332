-- Each iteration sums a beta in its own part of the lists.
use Prim.Native.Nat.{◌-◌}
use Rattle.totals_enumerated.specs.Configurations.{Ranging}
use Rattle.totals_enumerated.proofs.enumerated_chunk.Given as goal

abbrev pub invariant-loop-b : goal.invariant-loop-b
invariant-loop-b l = Ranging l.plan l.us l.vs l.factors l.bits l.first l.shape l.size l.b l.initial.room l.room l.initial.signs l.signs l.initial.c l.c l.initial.squares l.squares l.initial.fourths l.fourths
