-- On the way there the sums have the terms of the first k iterations; on the way back they lack as many.
use Prim.Native.Nat.{◌*◌, ◌-◌, ◌^◌}
use Rattle.pair_sums.specs.Pair.{Summed}
use Rattle.pair_sums.proofs.alone.alone_there_and_back.Given as goal

abbrev pub invariant-loop-k : goal.invariant-loop-k
invariant-loop-k l = Summed l.v l.x l.w (2 * l.k) l.s

abbrev pub invariant-loop-k-2 : goal.invariant-loop-k-2
invariant-loop-k-2 l = Summed l.v l.x l.w (2 ^ l.w - 2 * l.k) l.s
