use mathlib.Core.Path.{◌≡◌}
use Prim.Native.Nat.{◌≤◌}
use lib.ListN.{length}
use Rattle.couplings.proofs.Rows.{rows}
use Rattle.couplings.proofs.couple.Given as goal

abbrev pub invariant-loop-b : goal.invariant-loop-b
invariant-loop-b l = (l.b ≤ length l.betas) × (l.results ≡ rows l.initial.results l.betas l.mag l.b)
