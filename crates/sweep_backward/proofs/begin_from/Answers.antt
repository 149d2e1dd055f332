-- The place is that of the vertex, or a moving one.
use Rattle.plan_steps.specs.Layout.{backward_place}
use Rattle.sweep_places.specs.Target.{Target}
use Rattle.sweep_places.proofs.Frames.{place_of}
use Rattle.sweep_backward.proofs.BackwardIteration.{written-fits}
use Rattle.sweep_backward.proofs.begin_from.Goals as goal

pub begin_at-largest-requires : goal.begin_at-largest-requires
begin_at-largest-requires c =
    let s = c in
    let below = c.kept_from-t.ensures.below in (
      place_of s.requires.1 _ (written-fits s.args.room.now s.requires.1 below ((let it : (let a = c.args in
          Target (backward_place a.plan.now c.kept_from-t.result) 1 c.place_for-place.result) = rw c.backward_place.ensures at c.place_for-place.ensures in it))),
      below,
    )

pub returns : goal.returns
returns c = (
  c.kept_from-t.ensures,
  (let it : (let a = c.args in
      Target (backward_place a.plan.now c.kept_from-t.result) 1 c.place_for-place.result) = rw c.backward_place.ensures at c.place_for-place.ensures in it),
  c.begin_at-largest.ensures,
)
