-- Steps, places, layout; the places leave the steps as they are.
use native.Mathlib.Omega.{arith}
use Rattle.transfer_matrix.specs.Room.{arranged}
use Rattle.plan_steps.proofs.Laws.Edges.{steps-keep}
use Rattle.plan_layout.proofs.Laws.Work.{room-is}
use Rattle.pair_places.proofs.Laws.Places.{places-most}
use Rattle.plan_layout.proofs.work.make_plan.Goals as goal

pub work_of-requires : goal.work_of-requires
work_of-requires c =
    let plan-places = c.plan_places-places in
    let s = c.before.before.before.before.before.before.before.before.before.before.before.before.before in
    let g = s.requires.0 in
    let most = places-most (arranged s.args.less) s.args.n s.args.w s.args.us.now s.args.vs.now in
    (omega (arith, plan-places.ensures.count-is, g.few), g.few, g.narrow, s.requires.1)

pub returns : goal.returns
returns c =
    let plan-places = c.plan_places-places in
    let plan-edges = c.plan_edges in
    let s = c.before.before.before.before.before.before.before.before.before.before.before.before.before.before in
    let e = c.work_of.ensures in
    let p = plan-places.ensures in
    let places = rw p.count-is at e.0 in
    let end = room-is _ _ _ _ s.args.us.now s.args.vs.now _ _ _ (rw places at e.1) in
    record { steps = steps-keep _ _ _ _ _ _ p.same plan-edges.ensures; kept = p.places; count-is = places; laid = e.1; ends = end }
