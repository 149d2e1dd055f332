-- A few entries go through one lane; more fill the sixteen evenly.
use native.Mathlib.Omega.{arith}
use borrow.Author.Rules.{rules}
use Rattle.largest_entry.proofs.LargestIteration.{sixteenths}
use Rattle.largest_entry.proofs.largest_from.Goals as goal

pub pow2-n-requires : goal.pow2-n-requires
pow2-n-requires c = search rules

pub one_lane-requires : goal.one_lane-requires
one_lane-requires c = rw c.pow2-n.ensures c.requires.1

pub returns-then-e-lt4 : goal.returns-then-e-lt4
returns-then-e-lt4 c = rw c.pow2-n.ensures at c.one_lane.ensures

pub sixteen_lanes-requires : goal.sixteen_lanes-requires
sixteen_lanes-requires c =
    let e = c.pow2-n.ensures in
    rw (sixteenths _ _ e (omega arith)) c.requires.1

pub returns : goal.returns
returns c =
    let e = c.pow2-n.ensures in
    rw (sixteenths _ _ e (omega arith)) at c.sixteen_lanes.ensures
