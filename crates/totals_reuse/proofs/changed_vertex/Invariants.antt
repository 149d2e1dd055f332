-- The steps from the last one down, one by one.
use Prim.Native.Nat.{◌-◌}
use Rattle.totals_reuse.specs.Settled.{SettledAbove}
use Rattle.totals_reuse.proofs.changed_vertex.Given as goal

abbrev pub invariant-loop-t : goal.invariant-loop-t
invariant-loop-t l = SettledAbove l.plan l.bits l.last l.n (l.t - 1)
