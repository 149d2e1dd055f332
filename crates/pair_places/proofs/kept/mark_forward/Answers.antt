use mathlib.Core.Path.{◌≡◌, refl, ◌∙◌}
use Prim.Native.Nat.{◌<◌}
use native.Mathlib.Omega.{arith}
use lib.ListN.{length}
use Rattle.pair_places.proofs.Laws.Places.{later-inside, earlier-inside}
use Rattle.pair_places.proofs.Marks.{forward_iteration, forward-end, asked-start}
use Rattle.pair_places.proofs.kept.mark_forward.Goals as goal

pub loop-i-init : goal.loop-i-init
loop-i-init c = (omega arith, refl, asked-start _ _ c.requires.1)

pub mark-requires : goal.mark-requires
mark-requires c =
    let at = c in
    let s = at in
    let b : at.loop-i.i < length s.args.us.now = omega arith in
    omega (arith, later-inside _ _ _ _ s.requires.0 b, c.later.ensures, at.loop-i.invariant.1)

pub mark-requires-in-loop-i : goal.mark-requires-in-loop-i
mark-requires-in-loop-i c =
    let mark = c.mark in
    let at = c in
    let s = at in
    let b : at.loop-i.i < length s.args.us.now = omega arith in
    omega (arith, earlier-inside _ _ _ _ s.requires.0 b, c.earlier.ensures, mark.auto.marks, at.loop-i.invariant.1)

pub loop-i-preserved : goal.loop-i-preserved
loop-i-preserved c =
    let mark2 = c.mark-in-loop-i in
    let is-propagated = c.is_propagated in
    let earlier = c.earlier in
    let mark = c.mark in
    let later = c.later in
    let iteration = c in
    let at = iteration in
    let s = at in (
      omega (arith, iteration.loop-i-test.true),
      mark2.auto.marks ∙ mark.auto.marks ∙ at.loop-i.invariant.1,
      forward_iteration _ _ s.args.us.now s.args.vs.now _ _ later.ensures mark.ensures
          s.args.w _ _ _ earlier.ensures is-propagated.ensures mark2.ensures at.loop-i.invariant.2,
    )

pub shape_of-marks : goal.shape_of-marks
shape_of-marks c = c.loop-i.invariant.1

pub returns : goal.returns
returns c =
    let loop = c.loop-i in
    let s = c in
    let e : loop.i ≡ length s.args.us.now = omega arith in
    forward-end _ _ _ _ (rw e at loop.invariant.2)
