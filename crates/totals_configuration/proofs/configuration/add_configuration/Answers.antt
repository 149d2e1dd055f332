use mathlib.Core.Path.{◌≡◌, refl, sym, ◌∙◌}
use mathlib.Core.Bool.{true, false}
use Prim.Native.Nat.{ℕ, ◌<◌}
use native.Mathlib.Omega.{arith}
use lib.ListN.{length}
use Rattle.totals_configuration.proofs.Laws.Lists.{factors-first, part_of}
use Rattle.totals_configuration.proofs.Staging.{stage_keep}
use Rattle.totals_configuration.proofs.Betas.{none_yet, some-unsound, beta-more, all-betas}
use Rattle.totals_configuration.proofs.configuration.add_configuration.Goals as goal

pub loop-b-init : goal.loop-b-init
loop-b-init c = record { below = omega arith; rooms = refl; results = refl; squareds = refl; fourthds = refl; so_far = λ J of. none_yet J _ _ _ _ }

pub answer_signed-requires : goal.answer_signed-requires
answer_signed-requires c =
    let p = c.requires in
    let i = c.loop-b.invariant in
    (stage_keep p.0 i.rooms i.results, factors-first _ p.1 (omega arith))

pub shape_of-room-then-not-answer_signed : goal.shape_of-room-then-not-answer_signed
shape_of-room-then-not-answer_signed c = c.answer_signed.auto.room ∙ c.loop-b.invariant.rooms

pub shape_of-c-then-not-answer_signed : goal.shape_of-c-then-not-answer_signed
shape_of-c-then-not-answer_signed c = c.answer_signed.auto.c ∙ c.loop-b.invariant.results

pub shape_of-squares-then-not-answer_signed : goal.shape_of-squares-then-not-answer_signed
shape_of-squares-then-not-answer_signed c = c.loop-b.invariant.squareds

pub shape_of-fourths-then-not-answer_signed : goal.shape_of-fourths-then-not-answer_signed
shape_of-fourths-then-not-answer_signed c = c.loop-b.invariant.fourthds

pub returns-then-not-answer_signed : goal.returns-then-not-answer_signed
returns-then-not-answer_signed c =
    let i = c.loop-b.invariant in
    let a = c.answer_signed in
    let no : true ≡ false → ⊥ = λ z. (let z' : ◌≡◌ {A = ℕ} 0 1 = cc in omega arith) in
    λ J of. (some-unsound J _ _ _ c.loop-b.b _ (a.ensures (J c.loop-b.b) (of c.loop-b.b (omega arith)) (λ z. absurd (omega arith))).0 _ (omega arith) c.if-not-answer_signed.true, λ z. absurd (no (sym z)))

pub overflow_mul-b : goal.overflow_mul-b
overflow_mul-b c = let h = part_of c.loop-b.b c.args.shape.betas (length c.args.us.now) (omega arith) in omega (arith, c.requires.2, c.well_formed)

pub add_powers-requires : goal.add_powers-requires
add_powers-requires c =
    let s = c in
    let i = c.loop-b.invariant in
    let h = part_of c.loop-b.b s.args.shape.betas (length s.args.us.now) (omega arith) in
    let l = c.answer_signed.auto.c ∙ i.results ∙ s.requires.0.fitting in
    (omega (arith, i.squareds, s.requires.2), omega (arith, i.fourthds, s.requires.3))

pub loop-b-preserved : goal.loop-b-preserved
loop-b-preserved c =
    let s = c in
    let i = c.loop-b.invariant in
    let a = c.answer_signed in
    let p = c.add_powers in
    let b = c.loop-b.b in
    let t : b < s.args.shape.betas = omega (arith, c.loop-b-test.true) in
    let h = part_of b s.args.shape.betas (length s.args.us.now) t in
    let l = a.auto.c ∙ i.results in
    record {
      below = omega arith;
      rooms = a.auto.room ∙ i.rooms;
      results = l;
      squareds = p.auto.squares ∙ i.squareds;
      fourthds = p.auto.fourths ∙ i.fourthds;
      so_far = λ J of. beta-more J _ _ _ _ _ _ _ b (i.so_far J of) _ (a.ensures (J b) (of b t) (λ z. absurd (omega arith))).0 _ _ c.if-not-answer_signed.false (l ∙ s.requires.0.fitting) (omega (arith, s.requires.2)) (omega (arith, s.requires.3)) p.ensures.squares_after p.ensures.fourths_after;
    }

pub shape_of-room : goal.shape_of-room
shape_of-room c = c.loop-b.invariant.rooms

pub shape_of-c : goal.shape_of-c
shape_of-c c = c.loop-b.invariant.results

pub shape_of-squares : goal.shape_of-squares
shape_of-squares c = c.loop-b.invariant.squareds

pub shape_of-fourths : goal.shape_of-fourths
shape_of-fourths c = c.loop-b.invariant.fourthds

pub returns : goal.returns
returns c =
    let s = c in
    let i = c.loop-b.invariant in
    let e : c.loop-b.b ≡ s.args.shape.betas = omega (arith, i.below) in
    λ J of. let g = all-betas J _ _ _ _ _ _ _ s.requires.2 s.requires.3 (rw e at (i.so_far J of)) in (g.0, λ _. g.1)
