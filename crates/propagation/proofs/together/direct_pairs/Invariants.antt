-- The first k pairs are direct; behind a propagated one all are.
use Prim.Native.Nat.{◌≤◌}
use lib.ListN.{length}
use Rattle.propagation.proofs.Pairings.{Front}
use Rattle.propagation.proofs.together.direct_pairs.Given as goal

abbrev pub invariant-loop-k : goal.invariant-loop-k
invariant-loop-k l = (l.k ≤ length l.order) × Front l.us l.vs l.order l.w l.k
