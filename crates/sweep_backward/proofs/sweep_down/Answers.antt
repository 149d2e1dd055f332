use mathlib.Core.Path.{◌≡◌, refl}
use Prim.Native.Nat.{◌+◌, ◌-◌, ◌≤◌, ◌<◌}
use native.Mathlib.Omega.{arith}
use Rattle.plan_steps.specs.Layout.{backward_place}
use Rattle.step_tables.proofs.Laws.Constants.{one-is}
use Rattle.pair_sums.proofs.Laws.Stored.{stored_if}
use Rattle.sweep_places.specs.Target.{Target}
use Rattle.sweep_backward.proofs.BackwardIteration.{going_on, steps-inside, backward-stepping, backward-steps, backward_iteration}
use Rattle.sweep_backward.proofs.sweep_down.Goals as goal

pub loop-t-init : goal.loop-t-init
loop-t-init c = let s = c in (going_on _ s.requires.0 s.requires.1 s.requires.3, s.requires.2)

pub backward_last-last-requires : goal.backward_last-last-requires
backward_last-last-requires c = let i = c.loop-t.invariant.0 in (omega (arith, i.ready.holds, i.below), c.loop-t-test.true)

pub overflow_sub-u : goal.overflow_sub-u
overflow_sub-u c = omega (arith, (let it : (let l = c.loop-t in (c.backward_last-last.result ≤ l.t) × (c.args.stop < c.backward_last-last.result)) = steps-inside c.backward_last-last.ensures c.loop-t-test.true in it))

pub backward_place-requires : goal.backward_place-requires
backward_place-requires c = let i = c.loop-t.invariant.0 in omega (arith, (let it : (let l = c.loop-t in (c.backward_last-last.result ≤ l.t) × (c.args.stop < c.backward_last-last.result)) = steps-inside c.backward_last-last.ensures c.loop-t-test.true in it), i.ready.holds, i.below)

pub is_due-due-requires : goal.is_due-due-requires
is_due-due-requires c = tt

pub backward_through-most-requires : goal.backward_through-most-requires
backward_through-most-requires c =
    let placed = c in
    let g = placed.loop-t.invariant.0 in
    let steps = placed.backward_last-last.ensures in (
      backward-stepping _ g steps ((let it : (let r = c.backward_last-last.result in r ≡ r - 1 + 1) = omega (arith, (let it : (let l = c.loop-t in (c.backward_last-last.result ≤ l.t) × (c.args.stop < c.backward_last-last.result)) = steps-inside c.backward_last-last.ensures c.loop-t-test.true in it)) in it)) ((let it : (let a = c.args in
          Target (backward_place a.plan.now (c.backward_last-last.result - 1)) c.loop-t.src c.place_for-dst.result) = rw c.backward_place.ensures at c.place_for-dst.ensures in it)),
      backward-steps _ g steps ((let it : (let r = c.backward_last-last.result in r ≡ r - 1 + 1) = omega (arith, (let it : (let l = c.loop-t in (c.backward_last-last.result ≤ l.t) × (c.args.stop < c.backward_last-last.result)) = steps-inside c.backward_last-last.ensures c.loop-t-test.true in it)) in it)) ((let it : (let a = c.args in
          Target (backward_place a.plan.now (c.backward_last-last.result - 1)) c.loop-t.src c.place_for-dst.result) = rw c.backward_place.ensures at c.place_for-dst.ensures in it)),
    )

pub loop-t-smaller : goal.loop-t-smaller
loop-t-smaller c = omega (arith, (let it : (let l = c.loop-t in (c.backward_last-last.result ≤ l.t) × (c.args.stop < c.backward_last-last.result)) = steps-inside c.backward_last-last.ensures c.loop-t-test.true in it))

pub loop-t-preserved : goal.loop-t-preserved
loop-t-preserved c =
    let stepped = c.backward_through-most.ensures in
    let due = c.is_due-due.ensures in
    let placed = c in
    let g = placed.loop-t.invariant.0 in (
      backward_iteration _ g placed.backward_last-last.ensures ((let it : (let r = c.backward_last-last.result in r ≡ r - 1 + 1) = omega (arith, (let it : (let l = c.loop-t in (c.backward_last-last.result ≤ l.t) × (c.args.stop < c.backward_last-last.result)) = steps-inside c.backward_last-last.ensures c.loop-t-test.true in it)) in it)) ((let it : (let a = c.args in
          Target (backward_place a.plan.now (c.backward_last-last.result - 1)) c.loop-t.src c.place_for-dst.result) = rw c.backward_place.ensures at c.place_for-dst.ensures in it)) one-is (rw one-is) stepped.room_after (stored_if _ 0 _ _ due stepped.value),
      omega (arith, (let it : (let l = c.loop-t in (c.backward_last-last.result ≤ l.t) × (c.args.stop < c.backward_last-last.result)) = steps-inside c.backward_last-last.ensures c.loop-t-test.true in it)),
    )

pub shape_of-room : goal.shape_of-room
shape_of-room c = c.loop-t.invariant.0.since.same

pub returns : goal.returns
returns c = let i = c.loop-t.invariant in let e : c.loop-t.t ≡ c.args.stop = omega (arith, i.1) in record { vertex_value = refl; backward_invariant = rw e at i.0 }
