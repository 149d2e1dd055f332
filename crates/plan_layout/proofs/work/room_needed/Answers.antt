-- The end of the layout is the room of the definition.
use native.Mathlib.Omega.{arith}
use Rattle.transfer_matrix.specs.Room.{arranged}
use Rattle.plan_layout.proofs.Laws.Work.{room-is}
use Rattle.pair_places.proofs.Laws.Places.{places-most}
use Rattle.plan_layout.proofs.work.room_needed.Goals as goal

pub work_of-work-requires : goal.work_of-work-requires
work_of-work-requires c =
    let s = c.before.before.before in
    let most = places-most (arranged s.args.less) s.args.n s.args.w s.args.us.now s.args.vs.now in
    (omega (arith, c.count_places-places.ensures, s.requires.1), s.requires.1, s.requires.2, s.requires.3)

pub returns : goal.returns
returns c =
    let s = c.before.before.before.before in
    let e = c.work_of-work.ensures in
    room-is _ _ _ _ s.args.us.now s.args.vs.now _ _ _ (rw (e.0, c.count_places-places.ensures) at e.1)
