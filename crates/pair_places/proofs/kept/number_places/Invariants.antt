-- Vertex by vertex: the places so far are given, the next is free.
use mathlib.Core.Path.{◌≡◌}
use mathlib.Core.Bool.{false}
use Prim.Native.Nat.{◌-◌, ◌≤◌}
use lib.ListN.{length, get_or}
use Rattle.pair_places.specs.Places.{Numbered}
use Rattle.pair_places.proofs.kept.number_places.Given as goal

abbrev pub invariant-loop-t : goal.invariant-loop-t
invariant-loop-t l =
    (l.t ≤ l.n) × (length l.plan ≡ length l.initial.plan) × Numbered l.initial.plan l.plan (λ u. get_or l.marks u false) l.k l.from l.t l.next
