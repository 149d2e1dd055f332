use mathlib.Core.Path.{◌≡◌}
use Prim.Native.Nat.{◌≤◌}
use lib.Ieee.{nan, binary64, mul}
use lib.ListN.{length, get_or}
use Rattle.list_laws.specs.Tabulate.{tabulate}
use Rattle.list_laws.specs.Part.{put}
use Rattle.couplings.proofs.couple_at.Given as goal

abbrev pub invariant-loop-e : goal.invariant-loop-e
invariant-loop-e l = (l.e ≤ length l.mag) × (l.results ≡ put l.initial.results l.at (tabulate (λ i. mul binary64 l.beta (get_or l.mag i nan)) l.e))
