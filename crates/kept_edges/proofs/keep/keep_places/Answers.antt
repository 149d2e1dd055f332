use mathlib.Core.Bool.{true, false}
use Rattle.kept_edges.proofs.Keeping.{ne_eq}
use Rattle.kept_edges.proofs.Placing.{place_none, place_not, place-room, place_it, place-all}
use lib.ListN.{length}
use Prim.Native.Nat.{◌<◌}
use native.Mathlib.Omega.{arith}
use Rattle.kept_edges.proofs.keep.keep_places.Goals as goal
use Rattle.kept_edges.proofs.keep.keep_places.Goals.{Then-w, then-w, else-w}

-- a kept edge's place has room
roomy : (c : Then-w) → let l = c.loop-place in l.k < length l.raw
roomy c =
    place-room c.loop-place.invariant c.loop-place-test.true (ne_eq _ _ false c.if-w.true)

pub loop-place-init : goal.loop-place-init
loop-place-init c = place_none _ _ c.requires

pub offset_bounds-raw-k : goal.offset_bounds-raw-k
offset_bounds-raw-k c = omega (arith, roomy c)

pub bounds-raw-k : goal.bounds-raw-k
bounds-raw-k c = omega (arith, roomy c)

pub overflow_add-k : goal.overflow_add-k
overflow_add-k c = omega (arith, roomy c)

pub loop-place-preserved : goal.loop-place-preserved
loop-place-preserved c =
    elim c.if-w.branch [
      | then-w w ↦ rw (w.raw-is, w.k-is) (place_it c.loop-place.invariant c.loop-place-test.true (ne_eq _ _ false w.if-w.true))
      | else-w w ↦ rw (w.raw-is, w.k-is) (place_not c.loop-place.invariant c.loop-place-test.true (ne_eq _ _ true w.if-w.false))
    ]

pub returns : goal.returns
returns c = place-all c.loop-place.invariant c.loop-place-test.false
