-- Each iteration makes the signs, finds what stands of the configuration before, and adds the powers of the new one.
use Prim.Native.Nat.{◌-◌}
use Rattle.totals_enumerated.specs.Configurations.{Counting}
use Rattle.totals_enumerated.proofs.enumerated_run.Given as goal

abbrev pub invariant-loop-j : goal.invariant-loop-j
invariant-loop-j l = Counting l.plan l.us l.vs l.factors l.bits l.b l.first l.shape l.j l.size l.initial.room l.room l.initial.signs l.signs l.initial.c l.c l.initial.squares l.squares l.initial.fourths l.fourths
