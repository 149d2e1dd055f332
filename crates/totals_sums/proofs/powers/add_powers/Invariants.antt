use mathlib.Core.Path.{◌≡◌}
use Prim.Native.Nat.{◌≤◌}
use lib.Ieee.{nan}
use lib.ListN.{length, get_or}
use Rattle.list_laws.specs.Part.{put}
use Rattle.list_laws.specs.Tabulate.{tabulate}
use Rattle.transfer_matrix.specs.Rounded.{ieee}
use Rattle.transfer_matrix.specs.Totals.{square, fourth}
use Rattle.totals_sums.proofs.Adding.{sum_at}
use Rattle.totals_sums.proofs.powers.add_powers.Given as goal

abbrev pub invariant-loop-p : goal.invariant-loop-p
invariant-loop-p l =
    (l.p ≤ length l.c) × (length l.squares ≡ length l.initial.squares) × (length l.fourths ≡ length l.initial.fourths)
    × (l.squares ≡ put l.initial.squares l.at (tabulate (sum_at l.initial.squares (λ i. square ieee (get_or l.c i nan)) l.at) l.p))
    × (l.fourths ≡ put l.initial.fourths l.at (tabulate (sum_at l.initial.fourths (λ i. fourth ieee (get_or l.c i nan)) l.at) l.p))
