-- The marks, then the places of each kind.
use mathlib.Core.Bool.{false}
use native.Mathlib.Omega.{arith}
use lib.ListN.{get_or}
use Rattle.list_laws.proofs.Laws.Count.{count_most}
use Rattle.pair_places.proofs.Laws.Places.{pairs_wider}
use Rattle.pair_places.proofs.Numbers.{placed}
use Rattle.pair_places.proofs.Marks.{unmarked}
use Rattle.pair_places.proofs.kept.plan_places.Goals as goal

pub mark_forward-requires : goal.mark_forward-requires
mark_forward-requires c =
    let s = c in
    (pairs_wider _ _ _ _ s.requires.1 s.requires.0, unmarked 1024)

pub mark_backward-requires : goal.mark_backward-requires
mark_backward-requires c =
    let s = c in
    (pairs_wider _ _ _ _ s.requires.1 s.requires.0, unmarked 1024)

pub number_places-requires : goal.number_places-requires
number_places-requires c =
    let number-places = c.number_places-next in
    let mark-forward = c.mark_forward in
    let s = c in
    let few = count_most (λ t. get_or mark-forward.new.marks t false) s.args.n in
    (omega (arith, s.requires.2, number-places.auto.plan), s.requires.1, omega arith, omega arith, omega (arith, s.requires.1, number-places.ensures.free))

pub returns : goal.returns
returns c =
    let number2 = c.number_places in
    let number = c.number_places-next in
    let back = c in
    let fore = back in
    let s = fore in
    let us = s.args.us.now in
    let vs = s.args.vs.now in
    placed _ _ _ _ us vs _ _ _ s.args.w _ _ fore.mark_forward.ensures back.mark_backward.ensures number.ensures number2.ensures
