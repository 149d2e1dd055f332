-- Any propagated vector that was at place `at` has gone on to t; it lies at place src.
use Prim.Native.Nat.{◌-◌, ◌≤◌}
use Rattle.propagation.specs.Current.{Advanced}
use Rattle.propagation.proofs.current.advance.Given as goal

abbrev pub invariant-loop-t : goal.invariant-loop-t
invariant-loop-t l = (l.t ≤ l.to) × Advanced l.plan l.initial.room l.room l.n l.w l.scales l.from l.at l.t l.src

abbrev pub decreases-loop-t : goal.decreases-loop-t
decreases-loop-t l = l.to - l.t
