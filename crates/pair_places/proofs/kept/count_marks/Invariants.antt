-- A count over the marks.
use mathlib.Core.Path.{◌≡◌}
use mathlib.Core.Bool.{false}
use Prim.Native.Nat.{◌-◌, ◌≤◌}
use lib.ListN.{get_or}
use Rattle.list_laws.specs.Count.{count}
use Rattle.pair_places.proofs.kept.count_marks.Given as goal

abbrev pub invariant-loop-t : goal.invariant-loop-t
invariant-loop-t l = (l.t ≤ l.n) × (l.c ≡ count (λ u. get_or l.marks u false) l.t)
