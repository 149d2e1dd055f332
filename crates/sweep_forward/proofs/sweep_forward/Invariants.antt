-- Each iteration stores a scale, takes the step from the newest vector, and keeps what it gave.
use Prim.Native.Nat.{◌-◌}
use Rattle.sweep_places.specs.ForwardInvariant.{ForwardInvariant}
use Rattle.sweep_forward.proofs.sweep_forward.Given as goal

abbrev pub invariant-loop-t : goal.invariant-loop-t
invariant-loop-t l = ForwardInvariant l.plan l.initial.room l.room l.n l.w l.scales l.elementwise l.t l.src l.most

abbrev pub decreases-loop-t : goal.decreases-loop-t
decreases-loop-t l = l.n - l.t
