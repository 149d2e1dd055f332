use mathlib.Core.Path.{◌≡◌, ◌∙◌}
use Prim.Native.Nat.{◌≤◌, ◌<◌}
use native.Mathlib.Omega.{arith}
use lib.ListN.{length-set}
use Rattle.plan_steps.specs.Layout.{forward_place}
use Rattle.step_tables.proofs.Laws.Constants.{one-is}
use Rattle.pair_sums.proofs.Laws.Stored.{stored_if}
use Rattle.vertex_step.proofs.Laws.Frame.{moving-fits}
use Rattle.sweep_places.specs.Target.{Target}
use Rattle.sweep_places.proofs.Frames.{place_of, since-then}
use Rattle.sweep_forward.proofs.ForwardIteration.{start-same, forward-start, steps-inside, forward-stepping, forward-steps, forward_iteration}
use Rattle.sweep_forward.proofs.sweep_forward.Goals as goal

pub start_at-requires : goal.start_at-requires
start_at-requires c = let p = c.requires in place_of p 0 (moving-fits _ _ 0 (omega arith) p.moving)

pub loop-t-init : goal.loop-t-init
loop-t-init c =
    let s = c in
    forward-start s.args.room.now s.requires c.start_at.ensures s.args.elementwise one-is

pub forward_last-last-requires : goal.forward_last-last-requires
forward_last-last-requires c = (omega (arith, c.loop-t.invariant.ready.holds), c.loop-t-test.true)

pub overflow_add-room : goal.overflow_add-room
overflow_add-room c = omega (
  arith,
  (let it : (let l = c.loop-t in
      (l.t ≤ c.forward_last-last.result) × (c.forward_last-last.result < c.args.n)) = steps-inside c.forward_last-last.ensures c.loop-t-test.true in it),
  c.loop-t.invariant.ready.ends,
)

pub offset_bounds-room-scales : goal.offset_bounds-room-scales
offset_bounds-room-scales c = omega (
  arith,
  (let it : (let l = c.loop-t in
      (l.t ≤ c.forward_last-last.result) × (c.forward_last-last.result < c.args.n)) = steps-inside c.forward_last-last.ensures c.loop-t-test.true in it),
  c.loop-t.invariant.ready.ends,
)

pub bounds-room-scales : goal.bounds-room-scales
bounds-room-scales c = omega (
  arith,
  (let it : (let l = c.loop-t in
      (l.t ≤ c.forward_last-last.result) × (c.forward_last-last.result < c.args.n)) = steps-inside c.forward_last-last.ensures c.loop-t-test.true in it),
  c.loop-t.invariant.ready.ends,
)

pub overflow_add-room-in-loop-t : goal.overflow_add-room-in-loop-t
overflow_add-room-in-loop-t c = omega (
  arith,
  (let it : (let l = c.loop-t in
      (l.t ≤ c.forward_last-last.result) × (c.forward_last-last.result < c.args.n)) = steps-inside c.forward_last-last.ensures c.loop-t-test.true in it),
  c.loop-t.invariant.ready.ends,
)

pub offset_bounds-room-scales-in-loop-t : goal.offset_bounds-room-scales-in-loop-t
offset_bounds-room-scales-in-loop-t c = omega (
  arith,
  (let it : (let l = c.loop-t in
      (l.t ≤ c.forward_last-last.result) × (c.forward_last-last.result < c.args.n)) = steps-inside c.forward_last-last.ensures c.loop-t-test.true in it),
  c.loop-t.invariant.ready.ends,
)

pub bounds-room-scales-in-loop-t : goal.bounds-room-scales-in-loop-t
bounds-room-scales-in-loop-t c = simp length-set (omega (
  arith,
  (let it : (let l = c.loop-t in
      (l.t ≤ c.forward_last-last.result) × (c.forward_last-last.result < c.args.n)) = steps-inside c.forward_last-last.ensures c.loop-t-test.true in it),
  c.loop-t.invariant.ready.ends,
))

pub forward_place-requires : goal.forward_place-requires
forward_place-requires c = omega (
  arith,
  (let it : (let l = c.loop-t in
      (l.t ≤ c.forward_last-last.result) × (c.forward_last-last.result < c.args.n)) = steps-inside c.forward_last-last.ensures c.loop-t-test.true in it),
  c.loop-t.invariant.ready.holds,
)

pub is_due-due-requires : goal.is_due-due-requires
is_due-due-requires c = tt

pub forward_through-most-requires : goal.forward_through-most-requires
forward_through-most-requires c =
    let placed = c in
    let in-loop = placed in
    let g = in-loop.loop-t.invariant in
    let b = in-loop.loop-t-test.true in
    let steps = placed.forward_last-last.ensures in (
      forward-stepping g b steps ((let it : (let a = c.args in
          Target (forward_place a.plan.now c.forward_last-last.result) c.loop-t.src c.place_for-dst.result) = rw c.forward_place.ensures at c.place_for-dst.ensures in it)) _ _,
      forward-steps g b steps ((let it : (let a = c.args in
          Target (forward_place a.plan.now c.forward_last-last.result) c.loop-t.src c.place_for-dst.result) = rw c.forward_place.ensures at c.place_for-dst.ensures in it)) _ _,
    )

pub overflow_add-t : goal.overflow_add-t
overflow_add-t c = omega (
  arith,
  (let it : (let l = c.loop-t in
      (l.t ≤ c.forward_last-last.result) × (c.forward_last-last.result < c.args.n)) = steps-inside c.forward_last-last.ensures c.loop-t-test.true in it),
  c.ranges,
)

pub loop-t-smaller : goal.loop-t-smaller
loop-t-smaller c = omega (
  arith,
  (let it : (let l = c.loop-t in
      (l.t ≤ c.forward_last-last.result) × (c.forward_last-last.result < c.args.n)) = steps-inside c.forward_last-last.ensures c.loop-t-test.true in it),
)

pub loop-t-preserved : goal.loop-t-preserved
loop-t-preserved c =
    let stepped = c.forward_through-most.ensures in
    let due = c.is_due-due.ensures in
    let placed = c in
    let in-loop = placed in
    forward_iteration in-loop.loop-t.invariant in-loop.loop-t-test.true placed.forward_last-last.ensures ((let it : (let a = c.args in
    Target (forward_place a.plan.now c.forward_last-last.result) c.loop-t.src c.place_for-dst.result) = rw c.forward_place.ensures at c.place_for-dst.ensures in it)) _ _ one-is (rw one-is) stepped.room_after
    (stored_if _ 3 _ _ due stepped.value)

pub shape_of-room : goal.shape_of-room
shape_of-room c = c.loop-t.invariant.since.same ∙ c.start_at.auto.room

pub returns : goal.returns
returns c =
    let s = c in
    let g = c.loop-t.invariant in
    let first = start-same s.args.room.now s.requires c.start_at.ensures in
    let all : c.loop-t.t ≡ s.args.n = omega (arith, g.below) in record { since = since-then first g.since; forward = λ J of. rw all at (g.newest J (rw first.tail of)).kept }
