use native.Mathlib.Omega.{arith}
use borrow.Author.Tests.{not-true, not-false}
use Rattle.distance.proofs.Relaxation.{lowered_none, ready_on, lowered-steps, steps_less, steps-calm}
use Rattle.distance.proofs.settle.Goals as goal

pub loop-d-init : goal.loop-d-init
loop-d-init c = lowered_none _

pub sweep_up-requires : goal.sweep_up-requires
sweep_up-requires c = ready_on c.requires c.loop-d.invariant

pub shape_of-d-then-not-sweep_up : goal.shape_of-d-then-not-sweep_up
shape_of-d-then-not-sweep_up c =
    let up = c.sweep_up.ensures in
    (lowered-steps c.loop-d.invariant up).len

pub returns-then-not-sweep_up : goal.returns-then-not-sweep_up
returns-then-not-sweep_up c =
    let up = c.sweep_up.ensures in
    record { lowered = lowered-steps c.loop-d.invariant up; settled = steps-calm up (not-true _ c.if-not-sweep_up.true-raw) }

pub sweep_down-requires : goal.sweep_down-requires
sweep_down-requires c =
    let up = c.sweep_up.ensures in
    let l = lowered-steps c.loop-d.invariant up in
    ready_on c.requires l

pub shape_of-d-then-not-sweep_down : goal.shape_of-d-then-not-sweep_down
shape_of-d-then-not-sweep_down c =
    let up = c.sweep_up.ensures in
    let down = c.sweep_down.ensures in
    (lowered-steps (lowered-steps c.loop-d.invariant up) down).len

pub returns-then-not-sweep_down : goal.returns-then-not-sweep_down
returns-then-not-sweep_down c =
    let up = c.sweep_up.ensures in
    let down = c.sweep_down.ensures in
    let l = lowered-steps (lowered-steps c.loop-d.invariant up) down in
    record { lowered = l; settled = steps-calm down (not-true _ c.if-not-sweep_down.true-raw) }

pub loop-d-smaller : goal.loop-d-smaller
loop-d-smaller c =
    let up = c.sweep_up.ensures in
    let down = c.sweep_down.ensures in
    omega (arith, steps_less up (not-false _ c.if-not-sweep_up.false-raw), steps_less down (not-false _ c.if-not-sweep_down.false-raw))

pub loop-d-preserved : goal.loop-d-preserved
loop-d-preserved c =
    let up = c.sweep_up.ensures in
    let down = c.sweep_down.ensures in
    lowered-steps (lowered-steps c.loop-d.invariant up) down
