use mathlib.Core.Path.{◌≡◌, refl, sym, ap, ◌∙◌}
use mathlib.Core.Bool.{true, false, not}
use Prim.Native.Nat.{ℕ, ◌+◌, ◌<◌}
use lib.Ieee.{Float}
use borrow.Author.Tests.{not-true, not-false}
use Rattle.step_tables.proofs.Laws.Constants.{zero_is}
use Rattle.transfer_matrix.specs.Job.{Job}
use Rattle.totals_configuration.specs.Powers.{AddedBeta}
use Rattle.totals_configuration.proofs.Laws.Sums.{passed_none, passed-more, not_passed}
use Rattle.totals_configuration.proofs.Laws.Lists.{filled, stage_with, factors_with}
use Rattle.totals_enumerated.specs.Configurations.{PlanOfBeta}
use Rattle.totals_enumerated.proofs.Standing.{edges_in, run_stands, signed-at}
use native.Mathlib.Omega.{arith}
use Rattle.totals_enumerated.proofs.enumerated_run.Goals as goal

pub fill-requires-2 : goal.fill-requires-2
fill-requires-2 c = let p = c.requires in omega (arith, p.3, p.4)

pub loop-j-init : goal.loop-j-init
loop-j-init c =
    let s = c in
    let p = s.requires in
    record {
      below = omega arith;
      rooms = refl;
      marks = refl;
      results = refl;
      squareds = refl;
      fourthds = refl;
      signed = λ i z. absurd (omega arith);
      stands = λ J of i z. absurd (omega arith);
      passed = λ J of. passed_none _ _ _ _ _ _ zero_is (filled s.args.squares.now _ _ _ _ refl p.3 c.fill.ensures)
          (filled s.args.fourths.now _ _ _ _ (p.3 ∙ sym p.4) p.3 c.fill-2.ensures);
    }

pub overflow_add-first : goal.overflow_add-first
overflow_add-first c = omega (arith, c.requires.2.fits, c.loop-j-test.true)

pub enumerated_signs-last-requires : goal.enumerated_signs-last-requires
enumerated_signs-last-requires c = let p = c.requires.2 in (c.loop-j.invariant.marks ∙ p.matched, p.bits_fit)

pub standing_from-changed-requires : goal.standing_from-changed-requires
standing_from-changed-requires c = let p = c.requires.0 in (p.some, edges_in p.ready p.ends)

pub add_beta-requires : goal.add_beta-requires
add_beta-requires c =
    let p = c.requires in
    let i = c.loop-j.invariant in
    let m = c.enumerated_signs-last.auto.signs ∙ i.marks ∙ p.2.matched in
    (stage_with p.0 m i.rooms i.results, factors_with p.1 m, i.squareds ∙ c.fill.auto.room ∙ p.3, i.fourthds ∙ c.fill-2.auto.room ∙ p.4)

pub shape_of-room-then-not-add_beta : goal.shape_of-room-then-not-add_beta
shape_of-room-then-not-add_beta c = c.add_beta.auto.room ∙ c.loop-j.invariant.rooms

pub shape_of-signs-then-not-add_beta : goal.shape_of-signs-then-not-add_beta
shape_of-signs-then-not-add_beta c = c.enumerated_signs-last.auto.signs ∙ c.loop-j.invariant.marks

pub shape_of-c-then-not-add_beta : goal.shape_of-c-then-not-add_beta
shape_of-c-then-not-add_beta c = c.add_beta.auto.c ∙ c.loop-j.invariant.results

pub shape_of-squares-then-not-add_beta : goal.shape_of-squares-then-not-add_beta
shape_of-squares-then-not-add_beta c = c.add_beta.auto.squares ∙ c.loop-j.invariant.squareds ∙ c.fill.auto.room

pub shape_of-fourths-then-not-add_beta : goal.shape_of-fourths-then-not-add_beta
shape_of-fourths-then-not-add_beta c = c.add_beta.auto.fourths ∙ c.loop-j.invariant.fourthds ∙ c.fill-2.auto.room

pub returns-then-not-add_beta : goal.returns-then-not-add_beta
returns-then-not-add_beta c =
    let s = c in
    let a = s.args in
    let l = c.loop-j in
    let i = l.invariant in
    let t : l.j < a.size = omega (arith, c.loop-j-test.true) in
    let no : true ≡ false → ⊥ = λ z. (let z' : ◌≡◌ {A = ℕ} 0 1 = cc in omega arith) in
    λ J of. (
      not_passed _ _ _ l.j _ _ (i.passed J of) _ ((let it : (let a = c.args in
          let l = c.loop-j in
          let r = c.add_beta in
          (J : ℕ → Job Float) → PlanOfBeta J a.plan.now a.factors.now a.bits.now a.first a.b a.shape
          → AddedBeta (J l.j) a.plan.now a.us.now a.vs.now r.new.room a.shape.n a.shape.w r.result l.squares r.new.squares l.fourths r.new.fourths) = λ J of. let s = c in
          let a = s.args in
          let l = c.loop-j in
          let e = c.enumerated_signs-last in
          c.add_beta.ensures (J l.j)
          (signed-at (J l.j) a.plan.now a.factors.now a.bits.now _ a.b (a.first + l.j) a.shape e.ensures.signs_after (of l.j))
          (run_stands a.plan.now a.factors.now a.bits.now l.signs _ l.room _ a.shape a.b a.first l.j _ _ s.requires.0.ready s.requires.0.ends c.standing_from-changed.ensures l.invariant.signed e.ensures.signs_after e.ensures.by_index J of (l.invariant.stands J of)) in it) J of).verdict _ t (not-true _ c.if-not-add_beta.true-raw),
      λ z. absurd (no (sym z)),
    )

pub loop-j-preserved : goal.loop-j-preserved
loop-j-preserved c =
    let s = c in
    let a = s.args in
    let l = c.loop-j in
    let i = l.invariant in
    let add = c.add_beta in
    let e = c.enumerated_signs-last in
    let t : l.j < a.size = omega (arith, c.loop-j-test.true) in
    let yes = not-false _ c.if-not-add_beta.false-raw in
    record {
      below = omega arith;
      rooms = add.auto.room ∙ i.rooms;
      marks = e.auto.signs ∙ i.marks;
      results = add.auto.c ∙ i.results;
      squareds = add.auto.squares ∙ i.squareds;
      fourthds = add.auto.fourths ∙ i.fourthds;
      signed = λ k z. let same : k ≡ l.j = omega arith in rw same e.ensures.signs_after;
      stands = λ J of k z. let same : k ≡ l.j = omega arith in rw same ((let it : (let a = c.args in
          let l = c.loop-j in
          let r = c.add_beta in
          (J : ℕ → Job Float) → PlanOfBeta J a.plan.now a.factors.now a.bits.now a.first a.b a.shape
          → AddedBeta (J l.j) a.plan.now a.us.now a.vs.now r.new.room a.shape.n a.shape.w r.result l.squares r.new.squares l.fourths r.new.fourths) = λ J of. let s = c in
          let a = s.args in
          let l = c.loop-j in
          let e = c.enumerated_signs-last in
          c.add_beta.ensures (J l.j)
          (signed-at (J l.j) a.plan.now a.factors.now a.bits.now _ a.b (a.first + l.j) a.shape e.ensures.signs_after (of l.j))
          (run_stands a.plan.now a.factors.now a.bits.now l.signs _ l.room _ a.shape a.b a.first l.j _ _ s.requires.0.ready s.requires.0.ends c.standing_from-changed.ensures l.invariant.signed e.ensures.signs_after e.ensures.by_index J of (l.invariant.stands J of)) in it) J of).kept;
      passed = λ J of.
          let t = (let it : (let a = c.args in
          let l = c.loop-j in
          let r = c.add_beta in
          (J : ℕ → Job Float) → PlanOfBeta J a.plan.now a.factors.now a.bits.now a.first a.b a.shape
          → AddedBeta (J l.j) a.plan.now a.us.now a.vs.now r.new.room a.shape.n a.shape.w r.result l.squares r.new.squares l.fourths r.new.fourths) = λ J of. let s = c in
          let a = s.args in
          let l = c.loop-j in
          let e = c.enumerated_signs-last in
          c.add_beta.ensures (J l.j)
          (signed-at (J l.j) a.plan.now a.factors.now a.bits.now _ a.b (a.first + l.j) a.shape e.ensures.signs_after (of l.j))
          (run_stands a.plan.now a.factors.now a.bits.now l.signs _ l.room _ a.shape a.b a.first l.j _ _ s.requires.0.ready s.requires.0.ends c.standing_from-changed.ensures l.invariant.signed e.ensures.signs_after e.ensures.by_index J of (l.invariant.stands J of)) in it) J of in
          passed-more _ _ _ l.j _ _ (i.passed J of) _ t.verdict _ _ yes (t.powers yes);
    }

pub shape_of-room : goal.shape_of-room
shape_of-room c = c.loop-j.invariant.rooms

pub shape_of-signs : goal.shape_of-signs
shape_of-signs c = c.loop-j.invariant.marks

pub shape_of-c : goal.shape_of-c
shape_of-c c = c.loop-j.invariant.results

pub shape_of-squares : goal.shape_of-squares
shape_of-squares c = c.loop-j.invariant.squareds ∙ c.fill.auto.room

pub shape_of-fourths : goal.shape_of-fourths
shape_of-fourths c = c.loop-j.invariant.fourthds ∙ c.fill-2.auto.room

pub returns : goal.returns
returns c =
    let s = c in
    let l = c.loop-j in
    let e : l.j ≡ s.args.size = omega (arith, l.invariant.below) in
    λ J of. let g = rw e at (l.invariant.passed J of) in (sym (ap not g.none), λ _. g.sums)
