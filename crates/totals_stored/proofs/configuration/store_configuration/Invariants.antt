use Prim.Native.Nat.{◌-◌}
use Rattle.list_laws.proofs.Laws.Search as Search
use Rattle.totals_stored.proofs.Laws.Stored.{Storing}
use Rattle.totals_stored.proofs.configuration.store_configuration.Given as goal

abbrev pub invariant-loop-b : goal.invariant-loop-b
invariant-loop-b l = Storing l.plan l.us l.vs l.factors l.signs l.shape l.all l.x l.b l.initial.room l.room l.initial.c l.c l.initial.stored l.stored
