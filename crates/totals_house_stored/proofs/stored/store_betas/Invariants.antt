-- Each iteration lays the factors of a beta and stores it in its own part of the list.
use mathlib.Core.Path.{◌≡◌}
use Prim.Native.Nat.{◌-◌, ◌*◌, ◌^◌}
use lib.ListN.{length}
use Rattle.totals_house_betas.proofs.Laws.Summed.{StoredDone}
use Rattle.totals_house_stored.proofs.stored.store_betas.Given as goal

abbrev pub invariant-loop-b : goal.invariant-loop-b
invariant-loop-b l =
    (l.row ≡ length l.us * 2 ^ l.free) × StoredDone l.plan l.us l.vs l.mag l.betas l.bits l.shape (2 ^ l.free) l.b l.initial.room l.room l.initial.factors l.factors l.initial.signs l.signs l.initial.c l.c l.initial.stored l.stored
