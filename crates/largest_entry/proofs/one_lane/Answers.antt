use mathlib.Core.Path.{◌≡◌, ◌∙◌}
use Rattle.step_tables.proofs.Laws.Constants.{zero_is}
use Rattle.largest_entry.proofs.Laws.Top.{top-none}
use Rattle.largest_entry.proofs.Laws.Lanes.{lane_iteration}
use Rattle.largest_entry.proofs.LargestIteration.{largest-is}
use native.Mathlib.Omega.{arith}
use Rattle.largest_entry.proofs.one_lane.Goals as goal

pub loop-i-init : goal.loop-i-init
loop-i-init c = (omega arith, zero_is ∙ top-none _)

pub larger_of-a-requires : goal.larger_of-a-requires
larger_of-a-requires c = tt

pub loop-i-preserved : goal.loop-i-preserved
loop-i-preserved c =
    (omega arith, lane_iteration _ _ c.loop-i.invariant.1 c.larger_of-a.ensures)

pub returns : goal.returns
returns c =
    let at = c in
    let s = at in
    let e : at.loop-i.i ≡ s.args.n = omega arith in
    rw e at at.loop-i.invariant.1 ∙ largest-is s.args.v.now _ _ s.requires
