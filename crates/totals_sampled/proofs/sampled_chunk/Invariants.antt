use Prim.Native.Nat.{◌-◌}
use Rattle.totals_sampled.specs.Samples.{Sampling}
use Rattle.totals_sampled.proofs.sampled_chunk.Given as goal

abbrev pub invariant-loop-j : goal.invariant-loop-j
invariant-loop-j l = Sampling l.plan l.us l.vs l.factors l.seed l.chunk l.shape l.rng.s l.j l.samples l.initial.room l.room l.initial.signs l.signs l.initial.c l.c l.initial.squares l.squares l.initial.fourths l.fourths
