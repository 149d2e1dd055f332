use mathlib.Core.Path.{◌≡◌, refl, sym, ap, ◌∙◌}
use mathlib.Core.Bool.{true, false, not}
use Prim.Native.Nat.{ℕ, ◌<◌}
use native.Mathlib.Omega.{arith}
use lib.ListN.{length}
use borrow.Author.Tests.{not-true, not-false}
use Rattle.step_tables.proofs.Laws.Constants.{zero_is}
use Rattle.totals_configuration.proofs.Laws.Sums.{passed_none, passed-more, not_passed}
use Rattle.totals_configuration.proofs.Laws.Lists.{filled, stage_with, factors_with, signed_of}
use Rattle.list_laws.specs.Tabulate.{tabulate}
use Rattle.transfer_matrix.specs.Configuration.{drawn, words_per_sample}
use Rattle.totals_sampled.proofs.Words.{words_none, words_more, signs_are}
use Rattle.totals_sampled.proofs.sampled_chunk.Goals as goal

pub fill-requires-2 : goal.fill-requires-2
fill-requires-2 c = omega (arith, c.requires.2, c.requires.3)

pub loop-j-init : goal.loop-j-init
loop-j-init c =
    let s = c in
    let p = s.requires in
    record {
      below = omega arith;
      generator = words_none _ _ _ c.stream-rng.ensures;
      rooms = refl;
      marks = refl;
      results = refl;
      squareds = refl;
      fourthds = refl;
      passed = λ J of. passed_none _ _ _ _ _ _ zero_is (filled s.args.squares.now _ _ _ _ refl p.2 c.fill.ensures)
          (filled s.args.fourths.now _ _ _ _ (p.2 ∙ sym p.3) p.2 c.fill-2.ensures);
    }

pub add_configuration-requires : goal.add_configuration-requires
add_configuration-requires c =
    let p = c.requires in
    let i = c.loop-j.invariant in
    let m = c.sampled_signs-rng.auto.signs ∙ i.marks in
    (stage_with p.0 m i.rooms i.results, factors_with p.1 m, i.squareds ∙ c.fill.auto.room ∙ p.2, i.fourthds ∙ c.fill-2.auto.room ∙ p.3)

pub shape_of-room-then-not-add_configuration : goal.shape_of-room-then-not-add_configuration
shape_of-room-then-not-add_configuration c = c.add_configuration.auto.room ∙ c.loop-j.invariant.rooms

pub shape_of-signs-then-not-add_configuration : goal.shape_of-signs-then-not-add_configuration
shape_of-signs-then-not-add_configuration c = c.sampled_signs-rng.auto.signs ∙ c.loop-j.invariant.marks

pub shape_of-c-then-not-add_configuration : goal.shape_of-c-then-not-add_configuration
shape_of-c-then-not-add_configuration c = c.add_configuration.auto.c ∙ c.loop-j.invariant.results

pub shape_of-squares-then-not-add_configuration : goal.shape_of-squares-then-not-add_configuration
shape_of-squares-then-not-add_configuration c = c.add_configuration.auto.squares ∙ c.loop-j.invariant.squareds ∙ c.fill.auto.room

pub shape_of-fourths-then-not-add_configuration : goal.shape_of-fourths-then-not-add_configuration
shape_of-fourths-then-not-add_configuration c = c.add_configuration.auto.fourths ∙ c.loop-j.invariant.fourthds ∙ c.fill-2.auto.room

pub returns-then-not-add_configuration : goal.returns-then-not-add_configuration
returns-then-not-add_configuration c =
    let s = c in
    let l = c.loop-j in
    let a = c.add_configuration in
    let d = c.sampled_signs-rng.ensures in
    let q = signs_are _ _ _ _ _ _ l.invariant.generator (d.0 ∙ ap (tabulate _) l.invariant.marks) in
    let t : l.j < s.args.samples = omega (arith, c.loop-j-test.true) in
    let no : true ≡ false → ⊥ = λ z. (let z' : ◌≡◌ {A = ℕ} 0 1 = cc in omega arith) in
    λ J of.
    let said = a.ensures (J l.j) (signed_of (J l.j) s.args.plan.now s.args.factors.now _ _ (length s.args.signs.now) s.args.shape q (of l.j)) in
    (not_passed _ _ _ l.j _ _ (l.invariant.passed J of) _ said.0 _ t (not-true _ c.if-not-add_configuration.true-raw), λ z. absurd (no (sym z)))

pub loop-j-preserved : goal.loop-j-preserved
loop-j-preserved c =
    let s = c in
    let l = c.loop-j in
    let i = l.invariant in
    let a = c.add_configuration in
    let e = c.sampled_signs-rng in
    let q = signs_are _ _ _ _ _ _ i.generator (e.ensures.0 ∙ ap (tabulate _) i.marks) in
    let t : l.j < s.args.samples = omega (arith, c.loop-j-test.true) in
    let yes = not-false _ c.if-not-add_configuration.false-raw in
    record {
      below = omega arith;
      generator = words_more _ _ _ _ _ i.generator (e.ensures.1 ∙ ap (λ (k : ℕ). drawn l.rng.s (words_per_sample k)) i.marks);
      rooms = a.auto.room ∙ i.rooms;
      marks = e.auto.signs ∙ i.marks;
      results = a.auto.c ∙ i.results;
      squareds = a.auto.squares ∙ i.squareds;
      fourthds = a.auto.fourths ∙ i.fourthds;
      passed = λ J of.
          let said = a.ensures (J l.j) (signed_of (J l.j) s.args.plan.now s.args.factors.now _ _ (length s.args.signs.now) s.args.shape q (of l.j)) in
          passed-more _ _ _ l.j _ _ (i.passed J of) _ said.0 _ _ yes (said.1 yes);
    }

pub shape_of-room : goal.shape_of-room
shape_of-room c = c.loop-j.invariant.rooms

pub shape_of-signs : goal.shape_of-signs
shape_of-signs c = c.loop-j.invariant.marks

pub shape_of-c : goal.shape_of-c
shape_of-c c = c.loop-j.invariant.results

pub shape_of-squares : goal.shape_of-squares
shape_of-squares c = c.loop-j.invariant.squareds ∙ c.fill.auto.room

pub shape_of-fourths : goal.shape_of-fourths
shape_of-fourths c = c.loop-j.invariant.fourthds ∙ c.fill-2.auto.room

pub returns : goal.returns
returns c =
    let s = c in
    let l = c.loop-j in
    let e : l.j ≡ s.args.samples = omega (arith, l.invariant.below) in
    λ J of. let g = rw e at (l.invariant.passed J of) in (sym (ap not g.none), λ _. g.sums)
