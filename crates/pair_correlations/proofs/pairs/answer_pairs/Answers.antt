use mathlib.Core.Path.{refl, sym, ◌∙◌}
use native.Mathlib.Omega.{arith}
use borrow.Author.Tests.{not-true, not-false}
use Rattle.vertex_step.proofs.Laws.Ready.{still-ready}
use Rattle.pair_correlations.proofs.Answering.{answering_none, all-answered, still-next, two-unsound, two-more, second_of_pairing}
use Rattle.pair_correlations.proofs.pairs.answer_pairs.Goals as goal

pub loop-direct-init : goal.loop-direct-init
loop-direct-init c =
    let s = c in
    answering_none _ _ _ _ _ _ _ _ _ _ _ _ s.requires.4 s.requires.3.inside s.requires.6 refl (omega arith)

pub overflow_add-direct : goal.overflow_add-direct
overflow_add-direct c =
    let s = c in
    let i = c.loop-direct.invariant in
    omega (arith, i.below, i.behind, i.inside, s.well_formed)

pub overflow_add-directs : goal.overflow_add-directs
overflow_add-directs c =
    let s = c in
    omega (arith, s.requires.3.inside, s.well_formed)

pub next_pairing-first-requires : goal.next_pairing-first-requires
next_pairing-first-requires c =
    let s = c in
    let i = c.loop-direct.invariant in
    (i.below, i.behind, i.inside, omega arith, omega (arith, s.well_formed))

pub offset_bounds-order-first : goal.offset_bounds-order-first
offset_bounds-order-first c =
    let s = c in
    omega (arith, c.next_pairing-first.ensures.first, s.well_formed)

pub bounds-order-first : goal.bounds-order-first
bounds-order-first c = c.next_pairing-first.ensures.first

pub offset_bounds-order-second : goal.offset_bounds-order-second
offset_bounds-order-second c =
    let s = c in
    omega (arith, c.next_pairing-first.ensures.second, s.well_formed)

pub bounds-order-second : goal.bounds-order-second
bounds-order-second c = c.next_pairing-first.ensures.second

pub answer_two-step-requires : goal.answer_two-step-requires
answer_two-step-requires c =
    let s = c in
    let i = c.loop-direct.invariant in
    let t = c.next_pairing-first.ensures in
    let places = s.requires.5.places in (
      still-ready _ _ _ _ _ _ i.still s.requires.0,
      s.requires.1,
      s.requires.2.inside _ (rw (← s.requires.2.long) t.first),
      s.requires.2.inside _ (rw (← s.requires.2.long) t.second),
      second_of_pairing _ _ _ _ _ s.requires.3 _ _ t.paired,
      i.moving,
      i.long,
      places _ (omega (arith, i.on, t.first_new)) t.first,
      places _ (omega (arith, i.on, t.second_new)) t.second,
    )

pub shape_of-room-then-not-step : goal.shape_of-room-then-not-step
shape_of-room-then-not-step c = c.answer_two-step.auto.room ∙ c.loop-direct.invariant.still.same

pub shape_of-results-then-not-step : goal.shape_of-results-then-not-step
shape_of-results-then-not-step c =
    let s = c in
    c.answer_two-step.ensures.long ∙ c.loop-direct.invariant.long ∙ sym s.requires.6

pub returns-then-not-step : goal.returns-then-not-step
returns-then-not-step c =
    let s = c in
    let i = c.loop-direct.invariant in
    let two = c.answer_two-step.ensures in
    let t = c.next_pairing-first.ensures in record { still = still-next _ _ _ _ _ _ _ _ _ _ _ _ _ _ _ _ i s.requires.2 _ _ _ _ t s.requires.0 two; outcome = two-unsound _ _ _ _ _ _ _ _ _ _ _ _ _ _ _ _ i s.requires.2 _ _ _ _ t s.requires.0 two (not-true _ c.if-not-step.true) }

pub loop-direct-smaller : goal.loop-direct-smaller
loop-direct-smaller c =
    let i = c.loop-direct.invariant in
    let t = c.next_pairing-first.ensures in
    omega (arith, t.more, t.below, t.inside, i.below, i.inside)

pub loop-direct-preserved : goal.loop-direct-preserved
loop-direct-preserved c =
    let s = c in
    let i = c.loop-direct.invariant in
    let t = c.next_pairing-first.ensures in
    two-more _ _ _ _ _ _ _ _ _ _ _ _ _ _ _ _ i s.requires.2 _ _ _ _ t s.requires.0 c.answer_two-step.ensures (not-false _ c.if-not-step.false)

pub shape_of-room : goal.shape_of-room
shape_of-room c = c.loop-direct.invariant.still.same

pub shape_of-results : goal.shape_of-results
shape_of-results c =
    let s = c in
    c.loop-direct.invariant.long ∙ sym s.requires.6

pub returns : goal.returns
returns c =
    let s = c in
    let i = c.loop-direct.invariant in
    record { still = i.still; outcome = all-answered _ _ _ _ _ _ _ _ _ _ _ _ _ _ _ _ i s.requires.2 (omega (arith, s.requires.2.long)) }
