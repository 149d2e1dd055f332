use mathlib.Core.Path.{◌≡◌, refl, sym, ap, ◌∙◌}
use mathlib.Core.Bool.{true, false, not}
use Prim.Native.Nat.{ℕ, ◌+◌, ◌*◌, ◌<◌}
use native.Mathlib.Nat.{zero-mul}
use native.Mathlib.Omega.{arith}
use lib.ListN.{length}
use borrow.Author.Tests.{not-true, not-false}
use Rattle.list_laws.proofs.Laws.Search as Search
use Rattle.totals_stored.proofs.Laws.Stored.{number_small}
use Rattle.totals_configuration.proofs.Laws.Lists.{factors-first, part_of}
use Rattle.totals_configuration.proofs.Staging.{stage_keep, part-stored}
use Rattle.totals_configuration.proofs.Betas.{some-unsound, sound_more, results-value}
use Rattle.totals_stored.proofs.configuration.store_configuration.Goals as goal

pub loop-b-init : goal.loop-b-init
loop-b-init c =
    record {
      below = omega arith;
      rooms = refl;
      results = refl;
      storeds = refl;
      so_far = λ J of. (Search.start _, λ value same g. rw (zero-mul (length c.args.us.now)) g);
    }

pub answer_signed-requires : goal.answer_signed-requires
answer_signed-requires c =
    let p = c.requires in
    let i = c.loop-b.invariant in
    (stage_keep p.0 i.rooms i.results, factors-first _ p.1 (omega arith))

pub shape_of-room-then-not-answer_signed : goal.shape_of-room-then-not-answer_signed
shape_of-room-then-not-answer_signed c = c.answer_signed.auto.room ∙ c.loop-b.invariant.rooms

pub shape_of-c-then-not-answer_signed : goal.shape_of-c-then-not-answer_signed
shape_of-c-then-not-answer_signed c = c.answer_signed.auto.c ∙ c.loop-b.invariant.results

pub shape_of-stored-then-not-answer_signed : goal.shape_of-stored-then-not-answer_signed
shape_of-stored-then-not-answer_signed c = c.loop-b.invariant.storeds

pub returns-then-not-answer_signed : goal.returns-then-not-answer_signed
returns-then-not-answer_signed c =
    let l = c.loop-b in
    let a = c.answer_signed in
    let no : true ≡ false → ⊥ = λ z. (let z' : ◌≡◌ {A = ℕ} 0 1 = cc in omega arith) in
    λ J of. (some-unsound J _ _ _ l.b _ (a.ensures (J l.b) (of l.b (omega arith)) (λ z. absurd (omega arith))).0 _ (omega arith) (not-true _ c.if-not-answer_signed.true-raw), λ z. absurd (no (sym z)))

pub overflow_mul-b : goal.overflow_mul-b
overflow_mul-b c =
    let s = c in
    let l = c.loop-b in
    let np = length s.args.us.now in
    let h = part_of l.b s.args.shape.betas np (omega arith) in
    omega (arith, h, number_small s.args.all (s.args.shape.betas * np) 0 (omega (arith, s.requires.2)), s.requires.3, s.well_formed)

pub store_results-requires : goal.store_results-requires
store_results-requires c =
    let s = c in
    let l = c.loop-b in
    let i = l.invariant in
    let np = length s.args.us.now in
    let e : length c.answer_signed.new.c ≡ np = c.answer_signed.auto.c ∙ i.results ∙ s.requires.0.fitting in
    (s.requires.2, rw (e, i.storeds, s.requires.3) (part-stored l.b s.args.shape.betas np s.args.all (omega arith)))

pub loop-b-preserved : goal.loop-b-preserved
loop-b-preserved c =
    let s = c in
    let l = c.loop-b in
    let i = l.invariant in
    let a = c.answer_signed in
    let r = c.store_results in
    let yes = not-false _ c.if-not-answer_signed.false-raw in
    let t : l.b < s.args.shape.betas = omega (arith, c.loop-b-test.true) in
    let e = a.auto.c ∙ i.results in
    let m : l.b * length s.args.us.now + length s.args.us.now ≡ (l.b + 1) * length s.args.us.now = omega arith in
    record {
      below = omega arith;
      rooms = a.auto.room ∙ i.rooms;
      results = e;
      storeds = r.auto.stored ∙ i.storeds;
      so_far = λ J of.
          let o = (a.ensures (J l.b) (of l.b t) (λ z. absurd (omega arith))).0 in
          let g = i.so_far J of in (
            sound_more J _ _ _ l.b _ o g.0 yes,
            λ value same h. rw (e ∙ s.requires.0.fitting, m) at
                (r.ensures value _ (λ p k. results-value J s.args.us.now s.args.vs.now value s.args.all _ s.args.shape.betas l.b _ same t (o.values yes) p (rw (e ∙ s.requires.0.fitting) at k)) (g.1 value same h)),
          );
    }

pub shape_of-room : goal.shape_of-room
shape_of-room c = c.loop-b.invariant.rooms

pub shape_of-c : goal.shape_of-c
shape_of-c c = c.loop-b.invariant.results

pub shape_of-stored : goal.shape_of-stored
shape_of-stored c = c.loop-b.invariant.storeds

pub returns : goal.returns
returns c =
    let s = c in
    let i = c.loop-b.invariant in
    let e : c.loop-b.b ≡ s.args.shape.betas = omega (arith, i.below) in
    λ J of. let g = rw e at (i.so_far J of) in (sym (ap not g.0), λ _. g.1)
