use mathlib.Core.Path.{◌≡◌, refl, sym, ap, ◌∙◌}
use mathlib.Core.Bool.{true, false, not}
use Prim.Native.Nat.{ℕ, ◌*◌, ◌^◌, ◌≤◌, ◌<◌}
use native.Mathlib.Omega.{arith}
use lib.ListN.{length}
use lib.Pow.{pow_mono, pow_pos}
use borrow.Author.Tests.{not-true, not-false}
use Rattle.list_laws.proofs.Laws.Search as Search
use Rattle.totals_configuration.proofs.Laws.Lists.{stage_with, factors_with, signed_of}
use Rattle.totals_configuration.proofs.Laws.Nothing.{never, none-unsound, no_product, empty_list}
use Rattle.totals_configuration.proofs.Laws.Passing.{one-passed, one_failed}
use Rattle.totals_stored.proofs.Laws.Stored.{stored-none, stored_next, stored-all}
use Rattle.totals_stored.proofs.stored_correlations.Goals as goal

pub returns-then-stored-eq0 : goal.returns-then-stored-eq0
returns-then-stored-eq0 c =
    let s = c in
    let p = s.requires in
    let z : length s.args.stored.now ≡ 0 = omega arith in
    let some = pow_pos s.args.free in
    λ J of. (never _ _ (λ x. none-unsound (J x) s.args.us.now s.args.vs.now _ (no_product _ _ some (sym p.4 ∙ z))), λ _. empty_list _ _ _ p.4 z)

pub pow2-all-requires : goal.pow2-all-requires
pow2-all-requires c = let p = c.requires.3 in omega arith

pub loop-x-init : goal.loop-x-init
loop-x-init c =
    let s = c in (
      c.pow2-all.ensures,
      record {
        below = omega arith;
        rooms = refl;
        marks = refl;
        results = refl;
        storeds = refl;
        so_far = λ J of. (Search.start _, stored-none _ _ _ _);
      },
    )

pub enumerated_signs-requires : goal.enumerated_signs-requires
enumerated_signs-requires c = let p = c.requires.2 in (c.loop-x.invariant.1.marks ∙ p.matched, p.bits_fit)

pub store_configuration-requires : goal.store_configuration-requires
store_configuration-requires c =
    let p = c.requires in
    let i = c.loop-x.invariant in
    let m = c.enumerated_signs.auto.signs ∙ i.1.marks ∙ p.2.matched in
    (stage_with p.0 m i.1.rooms i.1.results, factors_with p.1 m, c.loop-x-test.true, i.1.storeds ∙ p.4 ∙ ap (λ (k : ℕ). c.args.shape.betas * length c.args.us.now * k) (sym i.0))

pub shape_of-room-then-not-store_configuration : goal.shape_of-room-then-not-store_configuration
shape_of-room-then-not-store_configuration c = c.store_configuration.auto.room ∙ c.loop-x.invariant.1.rooms

pub shape_of-signs-then-not-store_configuration : goal.shape_of-signs-then-not-store_configuration
shape_of-signs-then-not-store_configuration c = c.enumerated_signs.auto.signs ∙ c.loop-x.invariant.1.marks

pub shape_of-c-then-not-store_configuration : goal.shape_of-c-then-not-store_configuration
shape_of-c-then-not-store_configuration c = c.store_configuration.auto.c ∙ c.loop-x.invariant.1.results

pub shape_of-stored-then-not-store_configuration : goal.shape_of-stored-then-not-store_configuration
shape_of-stored-then-not-store_configuration c = c.store_configuration.auto.stored ∙ c.loop-x.invariant.1.storeds

pub returns-then-not-store_configuration : goal.returns-then-not-store_configuration
returns-then-not-store_configuration c =
    let s = c in
    let l = c.loop-x in
    let i = l.invariant in
    let a = c.store_configuration in
    let q = c.enumerated_signs.ensures.signs_after in
    let t : l.x < 2 ^ s.args.free = omega (arith, c.loop-x-test.true, i.0) in
    let no : true ≡ false → ⊥ = λ z. (let z' : ◌≡◌ {A = ℕ} 0 1 = cc in omega arith) in
    λ J of.
    let said = a.ensures (J l.x) (signed_of (J l.x) s.args.plan.now s.args.factors.now _ _ _ s.args.shape q (of l.x)) in
    (one_failed _ l.x _ said.0 _ t (not-true _ c.if-not-store_configuration.true-raw), λ z. absurd (no (sym z)))

pub loop-x-preserved : goal.loop-x-preserved
loop-x-preserved c =
    let s = c in
    let l = c.loop-x in
    let i = l.invariant in
    let a = c.store_configuration in
    let q = c.enumerated_signs.ensures.signs_after in
    let e = c.enumerated_signs in
    let t = c.loop-x-test.true in
    let yes = not-false _ c.if-not-store_configuration.false-raw in (
      i.0,
      record {
        below = omega arith;
        rooms = a.auto.room ∙ i.1.rooms;
        marks = e.auto.signs ∙ i.1.marks;
        results = a.auto.c ∙ i.1.results;
        storeds = a.auto.stored ∙ i.1.storeds;
        so_far = λ J of.
            let said = a.ensures (J l.x) (signed_of (J l.x) s.args.plan.now s.args.factors.now _ _ _ s.args.shape q (of l.x)) in
            let g = i.1.so_far J of in
            (one-passed _ l.x _ said.0 g.0 yes, stored_next _ _ _ l.x _ (said.1 yes _ (λ k b. refl) g.1));
      },
    )

pub shape_of-room : goal.shape_of-room
shape_of-room c = c.loop-x.invariant.1.rooms

pub shape_of-signs : goal.shape_of-signs
shape_of-signs c = c.loop-x.invariant.1.marks

pub shape_of-c : goal.shape_of-c
shape_of-c c = c.loop-x.invariant.1.results

pub shape_of-stored : goal.shape_of-stored
shape_of-stored c = c.loop-x.invariant.1.storeds

pub returns : goal.returns
returns c =
    let s = c in
    let l = c.loop-x in
    let i = l.invariant in
    let e : l.x ≡ 2 ^ s.args.free = omega (arith, i.0, i.1.below) in
    λ J of.
    let g = i.1.so_far J of in
    let h = rw (e, i.0) at g.1 in
    (sym (ap not (rw e at g.0)), λ _. stored-all _ _ _ _ (i.1.storeds ∙ s.requires.4) (pow_pos s.args.free) h)
