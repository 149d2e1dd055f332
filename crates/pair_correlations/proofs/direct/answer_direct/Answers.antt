use mathlib.Core.Path.{◌≡◌, ap, ◌∙◌}
use Prim.Native.Nat.{◌≤◌, ◌<◌}
use native.Mathlib.Omega.{arith}
use borrow.Author.Tests.{not-true, not-false}
use Rattle.transfer_matrix.specs.Room.{earlier}
use Rattle.pair_correlations.proofs.PairLaws.{direct-same}
use Rattle.pair_correlations.proofs.AtVertex.{directs_none, pair_inside, pair-sourced, pairs-unsound, directs_more, answered-none, answered-all}
use Rattle.pair_correlations.proofs.direct.answer_direct.Goals as goal

pub loop-k-init : goal.loop-k-init
loop-k-init c = (omega arith, c.requires.direct.up, directs_none _ _ _ _ _ _ _ _)

pub offset_bounds-order-k : goal.offset_bounds-order-k
offset_bounds-order-k c = let s = c in omega (arith, s.requires.direct.inside, s.well_formed)

pub bounds-order-k : goal.bounds-order-k
bounds-order-k c = let s = c in omega (arith, s.requires.direct.inside)

pub offset_bounds-order-j : goal.offset_bounds-order-j
offset_bounds-order-j c = let s = c in omega (arith, s.requires.direct.inside, c.beside-j.ensures.2, s.well_formed)

pub bounds-order-j : goal.bounds-order-j
bounds-order-j c = let s = c in omega (arith, s.requires.direct.inside, c.beside-j.ensures.2)

pub source_at-x-requires : goal.source_at-x-requires
source_at-x-requires c =
    let g = c.requires in
    let low = c.loop-k.invariant.0 in
    let high : c.loop-k.k < c.args.to = omega (arith, c.beside-j.ensures.0, c.beside-j.ensures.2) in
    (pair_inside c.args.room.now g _ low high, g.matched, g.direct.apart _ low high)

pub source_at-y-requires : goal.source_at-y-requires
source_at-y-requires c =
    let g = c.requires in
    let next = c.beside-j.ensures in
    let low : c.args.from ≤ c.beside-j.result = omega (arith, c.loop-k.invariant.0, next.0) in
    (pair_inside c.args.room.now g _ low next.2, g.matched, g.direct.apart _ low next.2)

pub write_two-requires : goal.write_two-requires
write_two-requires c =
    let g = c.requires in
    let i = c.loop-k.invariant in
    let next = c.beside-j.ensures in
    let high : c.loop-k.k < c.args.to = omega (arith, next.0, next.2) in
    let low : c.args.from ≤ c.beside-j.result = omega (arith, i.0, next.0) in
    let long = i.2.long ∙ g.fitting in
    let room = c.args.room.now in (
      pair-sourced room g _ i.0 high _ c.source_at-x.ensures,
      pair-sourced room g _ low next.2 _ c.source_at-y.ensures,
      rw long (pair_inside room g _ i.0 high),
      rw long (pair_inside room g _ low next.2),
      λ e. direct-same _ _ _ _ _ _ _ c.source_at-x.ensures c.source_at-y.ensures (ap (earlier c.args.us.now c.args.vs.now) e),
    )

pub shape_of-results-then-not-write_two : goal.shape_of-results-then-not-write_two
shape_of-results-then-not-write_two c = c.write_two.ensures.long ∙ c.loop-k.invariant.2.long

pub returns-then-not-write_two : goal.returns-then-not-write_two
returns-then-not-write_two c =
    let s = c in
    let i = c.loop-k.invariant in
    let next = c.beside-j.ensures in
    let wrote = c.write_two.ensures in
    answered-none (wrote.long ∙ i.2.long)
    (pairs-unsound _ s.requires _ _ i.0 next _ _ c.source_at-x.ensures c.source_at-y.ensures s.args.results.now _ _ _ (i.2.long ∙ s.requires.fitting) wrote (not-true _ c.if-not-write_two.true-raw))

pub overflow_add-k : goal.overflow_add-k
overflow_add-k c = let s = c in omega (arith, c.beside-j.ensures.2, s.requires.direct.inside, s.well_formed)

pub loop-k-smaller : goal.loop-k-smaller
loop-k-smaller c = let next = c.beside-j.ensures in omega (arith, next.0, next.2)

pub loop-k-preserved : goal.loop-k-preserved
loop-k-preserved c =
    let s = c in
    let i = c.loop-k.invariant in
    let next = c.beside-j.ensures in
    let wrote = c.write_two.ensures in (
      omega (arith, i.0, next.0),
      omega (arith, next.2),
      directs_more _ s.requires _ _ i.0 next _ _ c.source_at-x.ensures c.source_at-y.ensures _ _ _ _ (i.2.long ∙ s.requires.fitting) wrote (not-false _ c.if-not-write_two.false-raw) i.2,
    )

pub shape_of-results : goal.shape_of-results
shape_of-results c = c.loop-k.invariant.2.long

pub returns : goal.returns
returns c =
    let i = c.loop-k.invariant in
    let e : c.loop-k.k ≡ c.args.to = omega (arith, i.1) in
    answered-all (rw e at i.2)
