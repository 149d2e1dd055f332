-- Each iteration takes the step from the newest vector and keeps what it gave.
use Prim.Native.Nat.{◌≤◌}
use Rattle.sweep_places.specs.BackwardInvariant.{NewestBackward, BackwardInvariant}
use Rattle.sweep_backward.proofs.sweep_down.Given as goal

abbrev pub invariant-loop-t : goal.invariant-loop-t
invariant-loop-t l =
    BackwardInvariant l.plan l.initial.room l.room l.n l.w l.scales l.elementwise (λ J. NewestBackward J l.plan l.initial.room l.n l.w l.initial.t l.initial.src l.initial.most) l.t l.src l.most × (l.stop ≤ l.t)

abbrev pub decreases-loop-t : goal.decreases-loop-t
decreases-loop-t l = l.t
