use mathlib.Core.Bool.{true, false}
use Rattle.kept_edges.proofs.Keeping.{keep-none, keep_not, keep_it, keep_all, keep-rooms, zero_at, ne_eq}
use lib.ListN.{length}
use Prim.Native.Nat.{◌<◌}
use native.Mathlib.Omega.{arith}
use Rattle.kept_edges.proofs.keep.keep_dropping.Goals as goal
use Rattle.kept_edges.proofs.keep.keep_dropping.Goals.{Then-w, then-w, else-w}

-- a kept edge has room in each buffer
roomy : (c : Then-w) → let l = c.loop-i in (l.k < length l.early) × (l.k < length l.late) × (l.k < length l.mag)
roomy c =
    keep-rooms c.loop-i.invariant c.loop-i-test.true (zero_at c.magnitude_dropping-w.ensures (ne_eq _ _ false c.if-w.true))

pub loop-i-init : goal.loop-i-init
loop-i-init c = keep-none _ _ _ _ _ _ c.requires.2

pub offset_bounds-early-k : goal.offset_bounds-early-k
offset_bounds-early-k c = omega (arith, (roomy c).0)

pub bounds-early-k : goal.bounds-early-k
bounds-early-k c = omega (arith, (roomy c).0)

pub offset_bounds-late-k : goal.offset_bounds-late-k
offset_bounds-late-k c = omega (arith, (roomy c).1)

pub bounds-late-k : goal.bounds-late-k
bounds-late-k c = omega (arith, (roomy c).1)

pub offset_bounds-mag-k : goal.offset_bounds-mag-k
offset_bounds-mag-k c = omega (arith, (roomy c).2)

pub bounds-mag-k : goal.bounds-mag-k
bounds-mag-k c = omega (arith, (roomy c).2)

pub overflow_add-k : goal.overflow_add-k
overflow_add-k c = omega (arith, (roomy c).0)

pub loop-i-preserved : goal.loop-i-preserved
loop-i-preserved c =
    elim c.if-w.branch [
      | then-w w ↦ rw (w.early-is, w.late-is, w.mag-is, w.k-is) (keep_it c.loop-i.invariant c.loop-i-test.true (zero_at c.magnitude_dropping-w.ensures (ne_eq _ _ false w.if-w.true)) _ _ _ c.smaller-x.ensures c.larger-y.ensures c.magnitude_dropping-w.ensures)
      | else-w w ↦ rw (w.early-is, w.late-is, w.mag-is, w.k-is) (keep_not c.loop-i.invariant c.loop-i-test.true (zero_at c.magnitude_dropping-w.ensures (ne_eq _ _ true w.if-w.false)))
    ]

pub returns : goal.returns
returns c = keep_all c.loop-i.invariant c.loop-i-test.false
