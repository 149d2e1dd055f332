-- Each iteration lays the factors of a beta and sums it in its own part of the lists.
use Prim.Native.Nat.{◌-◌}
use lib.ListN.{length}
use Rattle.totals_house_betas.proofs.Laws.Summed.{BetasDone}
use Rattle.totals_house.proofs.totals.total_betas.Given as goal

abbrev pub invariant-loop-b : goal.invariant-loop-b
invariant-loop-b l =
    BetasDone l.plan l.us l.vs l.mag l.betas l.bits l.chunks l.shape l.b l.initial.room l.room l.initial.factors l.factors l.initial.signs l.signs l.initial.c l.c l.initial.subsquares l.subsquares l.initial.subfourths l.subfourths l.initial.squares l.squares l.initial.fourths l.fourths
