use mathlib.Core.Path.{◌≡◌, refl, ◌∙◌}
use mathlib.Core.Bool.{false}
use native.Mathlib.Omega.{arith}
use lib.ListN.{get_or}
use Rattle.list_laws.proofs.Laws.Count.{count_most}
use Rattle.pair_places.proofs.Numbers.{numbered-start, numbered_iteration}
use Rattle.pair_places.proofs.kept.number_places.Goals as goal

pub loop-t-init : goal.loop-t-init
loop-t-init c = (omega arith, refl, numbered-start _ _ _ _)

pub give_place-next-requires : goal.give_place-next-requires
give_place-next-requires c =
    let at = c in
    let s = at in
    let i = at.loop-t.invariant in
    let few = count_most (λ u. get_or s.args.marks.now u false) at.loop-t.t in
    (omega (arith, s.requires.0, i.1), s.requires.3, omega (arith, s.requires.1, s.requires.4, i.2.free))

pub loop-t-preserved : goal.loop-t-preserved
loop-t-preserved c =
    let give-place = c.give_place-next in
    let at = c in
    let s = at in
    let i = at.loop-t.invariant in (
      omega arith,
      give-place.auto.plan ∙ i.1,
      numbered_iteration _ _ _ _ _ _ _ _ _ i.2 s.requires.3 (omega (arith, s.requires.0, i.1)) give-place.ensures.0 give-place.ensures.1,
    )

pub shape_of-plan : goal.shape_of-plan
shape_of-plan c = c.loop-t.invariant.1

pub returns : goal.returns
returns c =
    let loop = c.loop-t in
    let s = c in
    let e : loop.t ≡ s.args.n = omega arith in
    rw e at loop.invariant.2
