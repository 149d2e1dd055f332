use mathlib.Core.Path.{◌≡◌, refl, sym, ◌∙◌}
use mathlib.Core.Bool.{true, false}
use Prim.Native.Nat.{ℕ, ◌+◌, ◌-◌, ◌*◌, ◌≤◌, ◌<◌}
use lib.ListN.{length}
use borrow.Author.Tests.{not-true, not-false}
use borrow.Rule.Slice.PartMut.{mid_len}
use Rattle.totals_configuration.proofs.Laws.Lists.{stage_with, factors-first, part_of}
use Rattle.totals_enumerated.proofs.Ranges.{came_back, summed-none, summed-more, not_summed, summed-all}
use native.Mathlib.Omega.{arith}
use Rattle.totals_enumerated.proofs.enumerated_chunk.Goals as goal

pub loop-b-init : goal.loop-b-init
loop-b-init c = record {
  below = omega arith;
  rooms = refl;
  marks = refl;
  results = refl;
  squareds = refl;
  fourthds = refl;
  summed = λ J of. summed-none _ _ _ _ _ _ (omega arith);
}

pub overflow_mul-at : goal.overflow_mul-at
overflow_mul-at c =
    let s = c in
    let l = c.loop-b in
    let h = part_of l.b s.args.shape.betas (length s.args.us.now) (omega arith) in
    omega (arith, h, l.invariant.squareds, s.requires.3, s.well_formed)

pub overflow_add-end : goal.overflow_add-end
overflow_add-end c =
    let s = c in
    let l = c.loop-b in
    let h = part_of l.b s.args.shape.betas (length s.args.us.now) (omega arith) in
    omega (arith, h, l.invariant.squareds, s.requires.3, s.well_formed)

pub offset_bounds-squares-at : goal.offset_bounds-squares-at
offset_bounds-squares-at c =
    let s = c in
    let l = c.loop-b in
    let h = part_of l.b s.args.shape.betas (length s.args.us.now) (omega arith) in
    omega (arith, h, l.invariant.squareds, s.requires.3, s.well_formed)

pub slice_bounds-enumerated_run-start : goal.slice_bounds-enumerated_run-start
slice_bounds-enumerated_run-start c =
    let s = c in
    let l = c.loop-b in
    let h = part_of l.b s.args.shape.betas (length s.args.us.now) (omega arith) in
    omega (arith, h, l.invariant.squareds, s.requires.3, s.well_formed)

pub slice_bounds-enumerated_run-end : goal.slice_bounds-enumerated_run-end
slice_bounds-enumerated_run-end c =
    let s = c in
    let l = c.loop-b in
    let h = part_of l.b s.args.shape.betas (length s.args.us.now) (omega arith) in
    omega (arith, h, l.invariant.squareds, s.requires.3, s.well_formed)

pub offset_bounds-fourths-at : goal.offset_bounds-fourths-at
offset_bounds-fourths-at c =
    let s = c in
    let l = c.loop-b in
    let h = part_of l.b s.args.shape.betas (length s.args.us.now) (omega arith) in
    omega (arith, h, l.invariant.fourthds, s.requires.4, s.well_formed)

pub enumerated_run-requires : goal.enumerated_run-requires
enumerated_run-requires c =
    let s = c in
    let p = s.requires in
    let l = c.loop-b in
    let i = l.invariant in
    let t : l.b < s.args.shape.betas = omega (arith, c.loop-b-test.true) in
    let np = length s.args.us.now in
    let h = part_of l.b s.args.shape.betas np t in
    let k : l.b * np + np - l.b * np ≡ np = omega arith in (
      stage_with p.0 refl i.rooms i.results,
      factors-first l.b p.1 t,
      record { matched = i.marks ∙ p.2.matched; bits_fit = p.2.bits_fit; fits = p.2.fits },
      mid_len (l.b * np) (l.b * np + np) l.squares (omega (arith, h, i.squareds, p.3)) ∙ k,
      mid_len (l.b * np) (l.b * np + np) l.fourths (omega (arith, h, i.fourthds, p.4)) ∙ k,
    )

pub shape_of-room-then-not-enumerated_run : goal.shape_of-room-then-not-enumerated_run
shape_of-room-then-not-enumerated_run c = c.enumerated_run.auto.room ∙ c.loop-b.invariant.rooms

pub shape_of-signs-then-not-enumerated_run : goal.shape_of-signs-then-not-enumerated_run
shape_of-signs-then-not-enumerated_run c = c.enumerated_run.auto.signs ∙ c.loop-b.invariant.marks

pub shape_of-c-then-not-enumerated_run : goal.shape_of-c-then-not-enumerated_run
shape_of-c-then-not-enumerated_run c = c.enumerated_run.auto.c ∙ c.loop-b.invariant.results

pub shape_of-squares-then-not-enumerated_run : goal.shape_of-squares-then-not-enumerated_run
shape_of-squares-then-not-enumerated_run c = c.squares-1.given.1 ∙ c.loop-b.invariant.squareds

pub shape_of-fourths-then-not-enumerated_run : goal.shape_of-fourths-then-not-enumerated_run
shape_of-fourths-then-not-enumerated_run c = c.fourths-1.given.1 ∙ c.loop-b.invariant.fourthds

pub returns-then-not-enumerated_run : goal.returns-then-not-enumerated_run
returns-then-not-enumerated_run c =
    let s = c in
    let a = s.args in
    let l = c.loop-b in
    let i = l.invariant in
    let run = c.enumerated_run in
    let t : l.b < a.shape.betas = omega (arith, c.loop-b-test.true) in
    let no : true ≡ false → ⊥ = λ z. (let z' : ◌≡◌ {A = ℕ} 0 1 = cc in omega arith) in
    λ J of.
    let said = run.ensures (λ x. J x l.b) (λ x. of x l.b t) in
    (not_summed J _ _ _ l.b _ _ _ (i.summed J of) said.0 _ t (not-true _ c.if-not-enumerated_run.true-raw), λ z. absurd (no (sym z)))

pub loop-b-preserved : goal.loop-b-preserved
loop-b-preserved c =
    let s = c in
    let a = s.args in
    let l = c.loop-b in
    let i = l.invariant in
    let run = c.enumerated_run in
    let t : l.b < a.shape.betas = omega (arith, c.loop-b-test.true) in
    let yes = not-false _ c.if-not-enumerated_run.false-raw in
    let np = length a.us.now in
    let at = l.b * np in
    let h = part_of l.b a.shape.betas np t in
    let k : at + np - at ≡ np = omega arith in
    let fits : at + np ≤ length l.squares = omega (arith, i.squareds, s.requires.3) in
    let fits' : at + np ≤ length l.fourths = omega (arith, i.fourthds, s.requires.4) in
    let full = run.auto.squares ∙ mid_len at (at + np) l.squares fits ∙ k in
    let full' = run.auto.fourths ∙ mid_len at (at + np) l.fourths fits' ∙ k in
    record {
      below = omega arith;
      rooms = run.auto.room ∙ i.rooms;
      marks = run.auto.signs ∙ i.marks;
      results = run.auto.c ∙ i.results;
      squareds = c.squares-1.given.1 ∙ i.squareds;
      fourthds = c.fourths-1.given.1 ∙ i.fourthds;
      summed = λ J of.
          let said = run.ensures (λ x. J x l.b) (λ x. of x l.b t) in
          summed-more J _ _ _ l.b _ _ _ (i.summed J of) said.0 _ _ _ _ yes (said.1 yes) full full' fits fits'
          (came_back l.squares _ at _ (full ∙ sym k)) (came_back l.fourths _ at _ (full' ∙ sym k));
    }

pub shape_of-room : goal.shape_of-room
shape_of-room c = c.loop-b.invariant.rooms

pub shape_of-signs : goal.shape_of-signs
shape_of-signs c = c.loop-b.invariant.marks

pub shape_of-c : goal.shape_of-c
shape_of-c c = c.loop-b.invariant.results

pub shape_of-squares : goal.shape_of-squares
shape_of-squares c = c.loop-b.invariant.squareds

pub shape_of-fourths : goal.shape_of-fourths
shape_of-fourths c = c.loop-b.invariant.fourthds

pub returns : goal.returns
returns c =
    let s = c in
    let l = c.loop-b in
    let i = l.invariant in
    let e : l.b ≡ s.args.shape.betas = omega (arith, i.below) in
    λ J of. let g = summed-all _ _ _ _ _ _ _ (i.squareds ∙ s.requires.3) (i.fourthds ∙ s.requires.4) (rw e at (i.summed J of)) in (g.0, λ _. g.1)
