use mathlib.Core.Path.{◌≡◌}
use Prim.Native.Nat.{◌-◌, ◌^◌}
use Rattle.list_laws.proofs.Laws.Search as Search
use Rattle.totals_stored.specs.Keeping.{Keeping}
use Rattle.totals_stored.proofs.stored_correlations.Given as goal

abbrev pub invariant-loop-x : goal.invariant-loop-x
invariant-loop-x l = (l.all ≡ 2 ^ l.free) × Keeping l.plan l.us l.vs l.factors l.bits l.shape l.x l.all l.initial.room l.room l.initial.signs l.signs l.initial.c l.c l.initial.stored l.stored
