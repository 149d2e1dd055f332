-- From vertex to vertex that pairs ask for, then down to vertex 0.
use Rattle.sweep_answering.proofs.Passings.{PassedTo}
use Rattle.sweep_answering.proofs.sweep_answering.Given as goal

abbrev pub invariant-loop-left : goal.invariant-loop-left
invariant-loop-left l =
    PassedTo l.plan l.us l.vs l.order l.initial.room l.room l.results l.n l.w l.scales l.elementwise l.passing l.changed l.left l.at.vertex l.at.place l.at.largest l.sound

abbrev pub decreases-loop-left : goal.decreases-loop-left
decreases-loop-left l = l.left
