use mathlib.Core.Path.{◌≡◌}
use Prim.Native.Nat.{◌≤◌}
use lib.Ieee.{nan}
use lib.ListN.{length, get_or}
use Rattle.list_laws.specs.Front.{over}
use Rattle.list_laws.specs.Tabulate.{tabulate}
use Rattle.totals_sums.proofs.Adding.{sum_of}
use Rattle.totals_sums.proofs.powers.add_sums.Given as goal

abbrev pub invariant-loop-k : goal.invariant-loop-k
invariant-loop-k l = (l.k ≤ length l.sums) × (length l.totals ≡ length l.initial.totals) × (l.totals ≡ over (tabulate (sum_of l.initial.totals (λ j. get_or l.sums j nan)) l.k) l.initial.totals)
