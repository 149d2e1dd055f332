use mathlib.Core.Path.{◌≡◌}
use mathlib.Core.Bool.{false}
use Prim.Native.Nat.{◌≤◌}
use lib.Ieee.{nan}
use lib.ListN.{length, get_or}
use Rattle.list_laws.specs.Part.{put}
use Rattle.list_laws.specs.Tabulate.{tabulate}
use Rattle.transfer_matrix.specs.Configuration.{lent_at}
use Rattle.totals_signs.proofs.factors.lay_signed.Given as goal

abbrev pub invariant-loop-e : goal.invariant-loop-e
invariant-loop-e l = (l.e ≤ length l.signs) × (length l.room ≡ length l.initial.room) × (l.room ≡ put l.initial.room l.at (tabulate (λ j. get_or l.factors (lent_at (length l.signs) l.b j (get_or l.signs j false)) nan) l.e))
