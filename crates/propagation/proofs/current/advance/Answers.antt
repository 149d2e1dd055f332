use mathlib.Core.Path.{◌≡◌, refl}
use Prim.Native.Nat.{◌+◌, ◌≤◌}
use native.Mathlib.Omega.{arith}
use Rattle.propagation.proofs.Propagation.{advance-none, steps-inside, advance-stepping, advance-through, advance-steps}
use Rattle.propagation.proofs.current.advance.Goals as goal

pub loop-t-init : goal.loop-t-init
loop-t-init c =
    let s = c in
    (omega arith, advance-none _ _ _ _ _ _ _ s.requires.3)

pub overflow_add-scale : goal.overflow_add-scale
overflow_add-scale c = omega (arith, (let it : (c.loop-t.t + 1 ≤ c.advance_last-last.result) × (c.advance_last-last.result ≤ c.args.to) = steps-inside c.advance_last-last.ensures ((let it : c.loop-t.t + 1 ≤ c.args.to = omega arith in it)) in it))

pub offset_bounds-room-scales : goal.offset_bounds-room-scales
offset_bounds-room-scales c = omega (arith, (let it : (c.loop-t.t + 1 ≤ c.advance_last-last.result) × (c.advance_last-last.result ≤ c.args.to) = steps-inside c.advance_last-last.ensures ((let it : c.loop-t.t + 1 ≤ c.args.to = omega arith in it)) in it))

pub bounds-room-scales : goal.bounds-room-scales
bounds-room-scales c = omega (arith, (let it : (c.loop-t.t + 1 ≤ c.advance_last-last.result) × (c.advance_last-last.result ≤ c.args.to) = steps-inside c.advance_last-last.ensures ((let it : c.loop-t.t + 1 ≤ c.args.to = omega arith in it)) in it))

pub overflow_add-then : goal.overflow_add-then
overflow_add-then c = omega (arith, (let it : (c.loop-t.t + 1 ≤ c.advance_last-last.result) × (c.advance_last-last.result ≤ c.args.to) = steps-inside c.advance_last-last.ensures ((let it : c.loop-t.t + 1 ≤ c.args.to = omega arith in it)) in it))

pub offset_bounds-room-scales-in-loop-t : goal.offset_bounds-room-scales-in-loop-t
offset_bounds-room-scales-in-loop-t c = omega (arith, (let it : (c.loop-t.t + 1 ≤ c.advance_last-last.result) × (c.advance_last-last.result ≤ c.args.to) = steps-inside c.advance_last-last.ensures ((let it : c.loop-t.t + 1 ≤ c.args.to = omega arith in it)) in it))

pub bounds-room-scales-in-loop-t : goal.bounds-room-scales-in-loop-t
bounds-room-scales-in-loop-t c = omega (arith, (let it : (c.loop-t.t + 1 ≤ c.advance_last-last.result) × (c.advance_last-last.result ≤ c.args.to) = steps-inside c.advance_last-last.ensures ((let it : c.loop-t.t + 1 ≤ c.args.to = omega arith in it)) in it))

pub forward_through-requires : goal.forward_through-requires
forward_through-requires c =
    let last = c in
    let at = last in
    let s = at in
    let steps = last.advance_last-last.ensures in (
      advance-stepping _ _ _ _ _ _ _ _ _ _ s.requires.0 at.loop-t.invariant.1 steps ((let it : c.loop-t.t + 1 ≤ c.args.to = omega arith in it)) s.requires.2,
      advance-through _ _ _ _ _ _ _ _ _ _ s.requires.0 at.loop-t.invariant.1 steps ((let it : c.loop-t.t + 1 ≤ c.args.to = omega arith in it)) s.requires.2,
    )

pub loop-t-smaller : goal.loop-t-smaller
loop-t-smaller c = omega (arith, (let it : (c.loop-t.t + 1 ≤ c.advance_last-last.result) × (c.advance_last-last.result ≤ c.args.to) = steps-inside c.advance_last-last.ensures ((let it : c.loop-t.t + 1 ≤ c.args.to = omega arith in it)) in it))

pub loop-t-preserved : goal.loop-t-preserved
loop-t-preserved c =
    let last = c in
    let at = last in
    let s = at in
    let steps = last.advance_last-last.ensures in (
      ((let it : (c.loop-t.t + 1 ≤ c.advance_last-last.result) × (c.advance_last-last.result ≤ c.args.to) = steps-inside c.advance_last-last.ensures ((let it : c.loop-t.t + 1 ≤ c.args.to = omega arith in it)) in it)).1,
      advance-steps _ _ _ _ _ _ _ _ _ _ s.requires.0 at.loop-t.invariant.1 steps ((let it : c.loop-t.t + 1 ≤ c.args.to = omega arith in it)) s.requires.2 _ _ _ refl refl c.forward_through.ensures.room_after,
    )

pub shape_of-room : goal.shape_of-room
shape_of-room c = c.loop-t.invariant.1.still.same

pub returns : goal.returns
returns c =
    let at = c in
    let e : at.loop-t.t ≡ at.args.to = omega (arith, at.loop-t.invariant.0) in
    rw e at at.loop-t.invariant.1
