use mathlib.Core.Path.{◌≡◌}
use Prim.Native.Nat.{◌≤◌}
use lib.ListN.{length, get_or}
use Rattle.list_laws.specs.Front.{over}
use Rattle.list_laws.specs.Tabulate.{tabulate}
use Rattle.transfer_matrix.specs.Configuration.{enumerated_minus}
use Rattle.totals_signs.specs.Last.{SamePast}
use Rattle.totals_signs.proofs.numbered.enumerated_signs.Given as goal

abbrev pub invariant-loop-e : goal.invariant-loop-e
invariant-loop-e l = (l.e ≤ length l.bits) × (length l.signs ≡ length l.initial.signs) × (l.signs ≡ over (tabulate (enumerated_minus (λ k. get_or l.bits k 0) l.x) l.e) l.initial.signs) × SamePast (enumerated_minus (λ k. get_or l.bits k 0) l.x) l.initial.signs l.last l.e
