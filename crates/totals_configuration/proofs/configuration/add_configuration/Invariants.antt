use Prim.Native.Nat.{◌-◌}
use Rattle.totals_configuration.specs.SoFar.{Betas}
use Rattle.totals_configuration.proofs.configuration.add_configuration.Given as goal

abbrev pub invariant-loop-b : goal.invariant-loop-b
invariant-loop-b l = Betas l.plan l.us l.vs l.factors l.signs l.shape l.b l.initial.room l.room l.initial.c l.c l.initial.squares l.squares l.initial.fourths l.fourths
