-- `settle` meets its contract. Measure: the sum of the lengths, which every sweep that goes on lowers.
use Rattle.distance.specs.Lengths.{Lowered, total}
use Rattle.distance.proofs.settle.Given as goal

abbrev pub invariant-loop-d : goal.invariant-loop-d
invariant-loop-d l = Lowered l.early l.late l.initial.d l.d

abbrev pub decreases-loop-d : goal.decreases-loop-d
decreases-loop-d l = total l.d
