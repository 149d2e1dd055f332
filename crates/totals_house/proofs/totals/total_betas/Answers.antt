use mathlib.Core.Path.{◌≡◌, refl, sym, ◌∙◌, subst}
use mathlib.Core.List.{List}
use Prim.Native.Nat.{◌+◌, ◌-◌, ◌*◌, ◌≤◌}
use native.Mathlib.Nat.{one-mul}
use native.Mathlib.Omega.{arith}
use lib.Ieee.{Float}
use lib.ListN.{length}
use borrow.Author.Tests.{not-true, not-false}
use borrow.Rule.Slice.PartMut.{mid_len}
use Rattle.totals_configuration.proofs.Laws.Lists.{stage_with, part_of}
use Rattle.totals_chunks.specs.Totals.{PlanOfChunks}
use Rattle.totals_enumerated.proofs.Ranges.{came_back}
use Rattle.totals_house_betas.specs.Betas.{alone}
use Rattle.totals_house_betas.proofs.Laws.Summed.{factors-of-one, summed-none, summed-more, summed-all, not_summed}
use Rattle.totals_house.proofs.totals.total_betas.Goals as goal

pub loop-b-init : goal.loop-b-init
loop-b-init c = record {
  below = omega arith;
  rooms = refl;
  laid = refl;
  marks = refl;
  results = refl;
  part-squareds = refl;
  part-fourthds = refl;
  squareds = refl;
  fourthds = refl;
  summed = λ J of. summed-none J _ _ _ _ _;
}

pub lay_beta-requires : goal.lay_beta-requires
lay_beta-requires c = let p = c.requires in (c.table-entries.ensures, c.loop-b.invariant.laid ∙ p.5, p.4, λ e l. p.6 c.loop-b.b e c.loop-b-test.true l)

pub overflow_mul-at : goal.overflow_mul-at
overflow_mul-at c = let h = part_of c.loop-b.b (length c.args.betas.now) (length c.args.us.now) c.loop-b-test.true in omega (arith, h, c.requires.10, c.well_formed)

pub overflow_add-end : goal.overflow_add-end
overflow_add-end c = let h = part_of c.loop-b.b (length c.args.betas.now) (length c.args.us.now) c.loop-b-test.true in omega (arith, h, c.requires.10, c.well_formed)

pub offset_bounds-squares-at : goal.offset_bounds-squares-at
offset_bounds-squares-at c = let h = part_of c.loop-b.b (length c.args.betas.now) (length c.args.us.now) c.loop-b-test.true in omega (arith, h, c.requires.10, c.well_formed)

pub slice_bounds-chunked_totals-end : goal.slice_bounds-chunked_totals-end
slice_bounds-chunked_totals-end c =
    let h = part_of c.loop-b.b (length c.args.betas.now) (length c.args.us.now) c.loop-b-test.true in
    omega (arith, h, c.loop-b.invariant.squareds, c.requires.10)

pub offset_bounds-fourths-at : goal.offset_bounds-fourths-at
offset_bounds-fourths-at c = let h = part_of c.loop-b.b (length c.args.betas.now) (length c.args.us.now) c.loop-b-test.true in omega (arith, h, c.requires.10, c.well_formed)

pub chunked_totals-requires : goal.chunked_totals-requires
chunked_totals-requires c =
    let p = c.requires in
    let l = c.loop-b in
    let i = l.invariant in
    let np = length c.args.us.now in
    let h = part_of l.b (length c.args.betas.now) np c.loop-b-test.true in
    let k : l.b * np + np - l.b * np ≡ np = omega arith in
    let m : c.args.shape.betas * np ≡ np = rw (p.1, one-mul) in (
      stage_with p.0 refl i.rooms i.results,
      factors-of-one _ _ _ _ p.1 p.3 (c.lay_beta.auto.factors ∙ i.laid ∙ p.5) p.4,
      record { matched = i.marks ∙ p.2.matched; bits_fit = p.2.bits_fit; fits = p.2.fits },
      record {
        part-squared = i.part-squareds ∙ p.9.part-squared ∙ sym m;
        part-fourthed = i.part-fourthds ∙ p.9.part-fourthed ∙ sym m;
        squared = mid_len (l.b * np) (l.b * np + np) l.squares (omega (arith, h, i.squareds, p.10)) ∙ k ∙ sym m;
        fourthed = mid_len (l.b * np) (l.b * np + np) l.fourths (omega (arith, h, i.fourthds, p.11)) ∙ k ∙ sym m;
      },
    )

pub shape_of-room-then-not-chunked_totals : goal.shape_of-room-then-not-chunked_totals
shape_of-room-then-not-chunked_totals c = c.chunked_totals.auto.room ∙ c.loop-b.invariant.rooms

pub shape_of-factors-then-not-chunked_totals : goal.shape_of-factors-then-not-chunked_totals
shape_of-factors-then-not-chunked_totals c = c.lay_beta.auto.factors ∙ c.loop-b.invariant.laid

pub shape_of-signs-then-not-chunked_totals : goal.shape_of-signs-then-not-chunked_totals
shape_of-signs-then-not-chunked_totals c = c.chunked_totals.auto.signs ∙ c.loop-b.invariant.marks

pub shape_of-c-then-not-chunked_totals : goal.shape_of-c-then-not-chunked_totals
shape_of-c-then-not-chunked_totals c = c.chunked_totals.auto.c ∙ c.loop-b.invariant.results

pub shape_of-subsquares-then-not-chunked_totals : goal.shape_of-subsquares-then-not-chunked_totals
shape_of-subsquares-then-not-chunked_totals c = c.chunked_totals.auto.subsquares ∙ c.loop-b.invariant.part-squareds

pub shape_of-subfourths-then-not-chunked_totals : goal.shape_of-subfourths-then-not-chunked_totals
shape_of-subfourths-then-not-chunked_totals c = c.chunked_totals.auto.subfourths ∙ c.loop-b.invariant.part-fourthds

pub shape_of-squares-then-not-chunked_totals : goal.shape_of-squares-then-not-chunked_totals
shape_of-squares-then-not-chunked_totals c = c.squares-1.given.1 ∙ c.loop-b.invariant.squareds

pub shape_of-fourths-then-not-chunked_totals : goal.shape_of-fourths-then-not-chunked_totals
shape_of-fourths-then-not-chunked_totals c = c.fourths-1.given.1 ∙ c.loop-b.invariant.fourthds

pub returns-then-not-chunked_totals : goal.returns-then-not-chunked_totals
returns-then-not-chunked_totals c =
    let a = c.args in
    let l = c.loop-b in
    let run = c.chunked_totals in
    λ J of.
    let plan = subst (λ (f : List Float). PlanOfChunks (λ i j. alone (J i j) l.b) a.plan.now f a.bits.now a.chunks a.shape) (sym c.lay_beta.ensures) (of l.b c.loop-b-test.true) in
    let said = rw c.requires.1 at (run.ensures (λ i j. alone (J i j) l.b) plan).0 in
    not_summed J _ _ _ l.b _ _ _ c.loop-b-test.true (sym (not-true _ c.if-not-chunked_totals.true-raw) ∙ said)

pub loop-b-preserved : goal.loop-b-preserved
loop-b-preserved c =
    let a = c.args in
    let p = c.requires in
    let l = c.loop-b in
    let i = l.invariant in
    let run = c.chunked_totals in
    let yes = not-false _ c.if-not-chunked_totals.false-raw in
    let np = length a.us.now in
    let at = l.b * np in
    let h = part_of l.b (length a.betas.now) np c.loop-b-test.true in
    let k : at + np - at ≡ np = omega arith in
    let fits : at + np ≤ length l.squares = omega (arith, i.squareds, p.10) in
    let fits' : at + np ≤ length l.fourths = omega (arith, i.fourthds, p.11) in
    let full = run.auto.squares ∙ mid_len at (at + np) l.squares fits in
    let full' = run.auto.fourths ∙ mid_len at (at + np) l.fourths fits' in
    record {
      below = omega (arith, c.loop-b-test.true);
      rooms = run.auto.room ∙ i.rooms;
      laid = c.lay_beta.auto.factors ∙ i.laid;
      marks = run.auto.signs ∙ i.marks;
      results = run.auto.c ∙ i.results;
      part-squareds = run.auto.subsquares ∙ i.part-squareds;
      part-fourthds = run.auto.subfourths ∙ i.part-fourthds;
      squareds = c.squares-1.given.1 ∙ i.squareds;
      fourthds = c.fourths-1.given.1 ∙ i.fourthds;
      summed = λ J of.
          let plan = subst (λ (f : List Float). PlanOfChunks (λ i j. alone (J i j) l.b) a.plan.now f a.bits.now a.chunks a.shape) (sym c.lay_beta.ensures) (of l.b c.loop-b-test.true) in
          let said = run.ensures (λ i j. alone (J i j) l.b) plan in
          summed-more J _ _ _ l.b _ l.squares _ _ _ l.fourths _ _ _ p.1 (i.summed J of) (not-true _ (sym (rw p.1 at said.0) ∙ yes)) (said.1 yes).squared (said.1 yes).fourthed
          (omega (arith, h, p.10)) (omega (arith, h, p.11)) (came_back l.squares _ at _ full) (came_back l.fourths _ at _ full');
    }

pub shape_of-room : goal.shape_of-room
shape_of-room c = c.loop-b.invariant.rooms

pub shape_of-factors : goal.shape_of-factors
shape_of-factors c = c.loop-b.invariant.laid

pub shape_of-signs : goal.shape_of-signs
shape_of-signs c = c.loop-b.invariant.marks

pub shape_of-c : goal.shape_of-c
shape_of-c c = c.loop-b.invariant.results

pub shape_of-subsquares : goal.shape_of-subsquares
shape_of-subsquares c = c.loop-b.invariant.part-squareds

pub shape_of-subfourths : goal.shape_of-subfourths
shape_of-subfourths c = c.loop-b.invariant.part-fourthds

pub shape_of-squares : goal.shape_of-squares
shape_of-squares c = c.loop-b.invariant.squareds

pub shape_of-fourths : goal.shape_of-fourths
shape_of-fourths c = c.loop-b.invariant.fourthds

pub returns : goal.returns
returns c =
    let i = c.loop-b.invariant in
    let e : c.loop-b.b ≡ length c.args.betas.now = omega (arith, i.below, c.loop-b-test.false) in
    λ J of. summed-all J _ _ _ _ _ _ _ _ _ e c.requires.10 c.requires.11 (i.summed J of)
