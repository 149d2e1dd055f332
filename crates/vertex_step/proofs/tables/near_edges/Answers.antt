use native.Mathlib.Omega.{arith}
use lib.Ieee.{nan}
use Rattle.vertex_step.proofs.Factors.{factor-is}
use Rattle.vertex_step.proofs.Entered.{entered_none, entered_more}
use Rattle.vertex_step.proofs.tables.near_edges.Goals as goal

pub loop-i-init : goal.loop-i-init
loop-i-init c = (c.near_count-count.ensures, omega arith, entered_none nan _ _, entered_none 0 _ _)

pub overflow_add-x : goal.overflow_add-x
overflow_add-x c = let s = c in omega (arith, s.requires.0.ends, s.requires.0.vertex.edge c.loop-i.i (omega arith), c.near_edge-e.ensures)

pub offset_bounds-room-factors : goal.offset_bounds-room-factors
offset_bounds-room-factors c = let s = c in omega (arith, s.requires.0.ends, s.requires.0.vertex.edge c.loop-i.i (omega arith), c.near_edge-e.ensures)

pub bounds-room-factors : goal.bounds-room-factors
bounds-room-factors c = let s = c in omega (arith, s.requires.0.ends, s.requires.0.vertex.edge c.loop-i.i (omega arith), c.near_edge-e.ensures)

pub bounds-x-i : goal.bounds-x-i
bounds-x-i c = let s = c in omega (arith, s.requires.1, s.requires.0.vertex.few, c.loop-i.invariant.2.same)

pub bounds-bits-i : goal.bounds-bits-i
bounds-bits-i c = let s = c in omega (arith, s.requires.2, s.requires.0.vertex.few, c.loop-i.invariant.3.same)

pub loop-i-preserved : goal.loop-i-preserved
loop-i-preserved c =
    let l = c.loop-i in
    let s = c in
    let v = factor-is s.args.room.now s.args.factors _ _ c.near_edge-e.ensures in (
      l.invariant.0,
      omega arith,
      entered_more nan _ l.x _ l.i _ l.invariant.2 (omega (arith, s.requires.1, s.requires.0.vertex.few)) v,
      entered_more 0 _ l.bits _ l.i _ l.invariant.3 (omega (arith, s.requires.2, s.requires.0.vertex.few)) c.near_bit.ensures,
    )

pub shape_of-x : goal.shape_of-x
shape_of-x c = c.loop-i.invariant.2.same

pub shape_of-bits : goal.shape_of-bits
shape_of-bits c = c.loop-i.invariant.3.same

pub returns : goal.returns
returns c = record { by_index = (λ i b. c.loop-i.invariant.2.at i (omega arith)); by_index_2 = λ i b. c.loop-i.invariant.3.at i (omega arith) }
