use mathlib.Core.Path.{◌≡◌}
use Rattle.largest_entry.proofs.LargestIteration.{passed_none, passed_iteration, lane_done, lanes_done}
use native.Mathlib.Omega.{arith}
use Rattle.largest_entry.proofs.sixteen_lanes.Goals as goal

pub loop-t-init : goal.loop-t-init
loop-t-init c = let z = c.no_entries-a.ensures in (omega arith, passed_none _ _ z, passed_none _ _ z, passed_none _ _ z, passed_none _ _ z)

pub no_entries-a-requires : goal.no_entries-a-requires
no_entries-a-requires c = tt

pub joined-a-requires : goal.joined-a-requires
joined-a-requires c = tt

pub joined-b-requires : goal.joined-b-requires
joined-b-requires c = tt

pub joined-c-requires : goal.joined-c-requires
joined-c-requires c = tt

pub overflow_add-from-in-loop-t-3 : goal.overflow_add-from-in-loop-t-3
overflow_add-from-in-loop-t-3 c =
    let in-loop = c in
    omega (arith, in-loop.loop-t-test.true, in-loop.requires)

pub four_at-requires-in-loop-t-3 : goal.four_at-requires-in-loop-t-3
four_at-requires-in-loop-t-3 c =
    let in-loop = c in
    omega (arith, in-loop.loop-t-test.true, in-loop.requires)

pub joined-d-requires : goal.joined-d-requires
joined-d-requires c = tt

pub loop-t-preserved : goal.loop-t-preserved
loop-t-preserved c =
    let c4 = c in
    let c3 = c4 in
    let c2 = c3 in
    let c1 = c2 in
    let at = c1 in
    let i = at.loop-t.invariant in (
      omega (arith, c1.loop-t-test),
      passed_iteration _ _ _ _ _ _ _ _ _ _ _ _ _ _ _ i.1 c1.four_at.ensures c1.joined-a.ensures,
      passed_iteration _ _ _ _ _ _ _ _ _ _ _ _ _ _ _ i.2 c2.four_at-in-loop-t.ensures c2.joined-b.ensures,
      passed_iteration _ _ _ _ _ _ _ _ _ _ _ _ _ _ _ i.3 c3.four_at-in-loop-t-2.ensures c3.joined-c.ensures,
      passed_iteration _ _ _ _ _ _ _ _ _ _ _ _ _ _ _ i.4 c4.four_at-in-loop-t-3.ensures c4.joined-d.ensures,
    )

pub joined-requires : goal.joined-requires
joined-requires c = tt

pub joined-requires-2 : goal.joined-requires-2
joined-requires-2 c = tt

pub joined-l-requires : goal.joined-l-requires
joined-l-requires c = tt

pub larger_of-requires : goal.larger_of-requires
larger_of-requires c = tt

pub larger_of-requires-2 : goal.larger_of-requires-2
larger_of-requires-2 c = tt

pub larger_of-requires-3 : goal.larger_of-requires-3
larger_of-requires-3 c = tt

pub returns : goal.returns
returns c =
    let joins = c in
    let at = joins in
    let s = at in
    let i = at.loop-t.invariant in
    let e : at.loop-t.t ≡ s.args.n = omega arith in
    let a = rw e at i.1 in
    let b = rw e at i.2 in
    let d = rw e at i.3 in
    let f = rw e at i.4 in
    let x = joins.joined.ensures in
    let y = joins.joined-2.ensures in
    let z = joins.joined-l.ensures in
    let fit = at.type_inv.v in
    let lane = lane_done s.args.v.now s.args.at s.args.n fit in
    lanes_done s.args.v.now s.args.at s.args.n fit _ _ _ _ _ _ _ s.requires
    (lane 0 _ _ _ _ _ _ _ a.first b.first d.first f.first x.0 y.0 z.0)
    (lane 1 _ _ _ _ _ _ _ a.second b.second d.second f.second x.1 y.1 z.1)
    (lane 2 _ _ _ _ _ _ _ a.third b.third d.third f.third x.2 y.2 z.2)
    (lane 3 _ _ _ _ _ _ _ a.fourth b.fourth d.fourth f.fourth x.3 y.3 z.3)
    c.larger_of.ensures c.larger_of-2.ensures c.larger_of-3.ensures
