-- The longest of the edges passed.
use Rattle.list_laws.specs.Most as M
use lib.ListN.{length, get_or}
use Prim.Native.Nat.{◌-◌, ◌≤◌}
use mathlib.Core.Path.{◌≡◌}
use Rattle.kept_edges.proofs.reach.longest.Given as goal

abbrev pub invariant-loop-e : goal.invariant-loop-e
invariant-loop-e l = (l.most ≡ M.most (λ f. get_or l.late f 0 - get_or l.early f 0) l.e) × (l.e ≤ length l.early)
