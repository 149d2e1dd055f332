use Prim.Native.Nat.{◌-◌}
use lib.ListN.{length}
use Rattle.totals_stored.proofs.Laws.Stored.{Placing}
use Rattle.totals_stored.proofs.configuration.store_results.Given as goal

abbrev pub invariant-loop-p : goal.invariant-loop-p
invariant-loop-p l = Placing l.all l.x l.first l.c l.p l.initial.stored l.stored
