use mathlib.Core.Path.{◌≡◌, refl, sym, ap, ◌∙◌, subst}
use mathlib.Core.Bool.{true, false}
use mathlib.Core.List.{List}
use Prim.Native.Nat.{ℕ, ◌+◌, ◌-◌, ◌*◌, ◌^◌, ◌≤◌, ◌<◌}
use native.Mathlib.Nat.{one-mul, mul-le-mul}
use native.Mathlib.Omega.{arith}
use lib.Ieee.{Float}
use lib.ListN.{length}
use lib.Pow.{pow_mono, pow_pos}
use borrow.Author.Tests.{not-true, not-false}
use borrow.Rule.Slice.PartMut.{mid_len}
use Rattle.totals_configuration.proofs.Laws.Lists.{stage_with, part_of}
use Rattle.totals_configuration.specs.Signed.{PlanOfRun}
use Rattle.totals_enumerated.specs.Configurations.{enumerated_signs}
use Rattle.totals_enumerated.proofs.Ranges.{came_back}
use Rattle.totals_house_betas.specs.Betas.{alone}
use Rattle.totals_house_betas.proofs.Laws.Summed.{factors-of-one, stored-none, stored_more, stored-all, not_stored}
use Rattle.totals_house_stored.proofs.stored.store_betas.Goals as goal

-- a row is short enough
few-columns : (pairs free : ℕ) → pairs ≤ 256 → free ≤ 24 → pairs * 2 ^ free ≤ 4294967296
few-columns pairs free p f = let m : 2 ^ free ≤ 2 ^ 24 = pow_mono f in let q : pairs * 2 ^ free ≤ 256 * 2 ^ 24 = mul-le-mul p m in omega arith

-- and lies in the list
row_fits : (b betas pairs all long : ℕ) → b < betas → long ≡ betas * pairs * all → b * (pairs * all) + pairs * all ≤ long
row_fits b betas pairs all long l e = let h = part_of b betas (pairs * all) l in let m : betas * (pairs * all) ≡ betas * pairs * all = omega arith in omega arith

pub pow2-requires : goal.pow2-requires
pow2-requires c = omega (arith, c.requires.3)

pub overflow_mul-row : goal.overflow_mul-row
overflow_mul-row c = rw c.pow2.ensures (omega (arith, few-columns (length c.args.us.now) c.args.free c.requires.9 c.requires.3))

pub loop-b-init : goal.loop-b-init
loop-b-init c = (
  ap (λ i. length c.args.us.now * i) c.pow2.ensures,
  record {
    below = omega arith;
    rooms = refl;
    laid = refl;
    marks = refl;
    results = refl;
    long = refl;
    rows = λ J of. stored-none J _ _ _ _;
  },
)

pub lay_beta-requires : goal.lay_beta-requires
lay_beta-requires c = let p = c.requires in (c.table-entries.ensures, c.loop-b.invariant.1.laid ∙ p.6, p.5, λ e l. p.7 c.loop-b.b e c.loop-b-test.true l)

pub overflow_mul-at : goal.overflow_mul-at
overflow_mul-at c = omega (
  arith,
  (let it : (let np = length c.args.us.now * c.pow2.result in c.loop-b.b * np + np ≤ length c.args.stored.now) = row_fits c.loop-b.b (length c.args.betas.now) (length c.args.us.now) c.pow2.result _ c.loop-b-test.true
      (c.requires.10 ∙ ap (λ i. length c.args.betas.now * length c.args.us.now * i) (sym c.pow2.ensures)) in it),
  c.well_formed,
)

pub overflow_add-end : goal.overflow_add-end
overflow_add-end c = omega (
  arith,
  (let it : (let np = length c.args.us.now * c.pow2.result in c.loop-b.b * np + np ≤ length c.args.stored.now) = row_fits c.loop-b.b (length c.args.betas.now) (length c.args.us.now) c.pow2.result _ c.loop-b-test.true
      (c.requires.10 ∙ ap (λ i. length c.args.betas.now * length c.args.us.now * i) (sym c.pow2.ensures)) in it),
  c.well_formed,
)

pub offset_bounds-stored-at : goal.offset_bounds-stored-at
offset_bounds-stored-at c = omega (
  arith,
  (let it : (let np = length c.args.us.now * c.pow2.result in c.loop-b.b * np + np ≤ length c.args.stored.now) = row_fits c.loop-b.b (length c.args.betas.now) (length c.args.us.now) c.pow2.result _ c.loop-b-test.true
      (c.requires.10 ∙ ap (λ i. length c.args.betas.now * length c.args.us.now * i) (sym c.pow2.ensures)) in it),
  c.well_formed,
)

pub slice_bounds-stored_correlations-end : goal.slice_bounds-stored_correlations-end
slice_bounds-stored_correlations-end c = omega (
  arith,
  (let it : (let np = length c.args.us.now * c.pow2.result in c.loop-b.b * np + np ≤ length c.args.stored.now) = row_fits c.loop-b.b (length c.args.betas.now) (length c.args.us.now) c.pow2.result _ c.loop-b-test.true
      (c.requires.10 ∙ ap (λ i. length c.args.betas.now * length c.args.us.now * i) (sym c.pow2.ensures)) in it),
  c.loop-b.invariant.1.long,
)

pub stored_correlations-requires : goal.stored_correlations-requires
stored_correlations-requires c =
    let p = c.requires in
    let l = c.loop-b in
    let i = l.invariant.1 in
    let h = (let it : (let np = length c.args.us.now * c.pow2.result in c.loop-b.b * np + np ≤ length c.args.stored.now) = row_fits c.loop-b.b (length c.args.betas.now) (length c.args.us.now) c.pow2.result _ c.loop-b-test.true
    (c.requires.10 ∙ ap (λ i. length c.args.betas.now * length c.args.us.now * i) (sym c.pow2.ensures)) in it) in
    let np = length c.args.us.now * c.pow2.result in (
      stage_with p.0 refl i.rooms i.results,
      factors-of-one _ _ _ _ p.1 p.4 (c.lay_beta.auto.factors ∙ i.laid ∙ p.6) p.5,
      record { matched = i.marks ∙ p.2.matched; bits_fit = p.2.bits_fit; fits = p.2.fits },
      omega (arith, p.3),
      mid_len (l.b * np) (l.b * np + np) l.stored (omega (arith, h, i.long)) ∙ (let it : (let np = length c.args.us.now * c.pow2.result in c.loop-b.b * np + np - c.loop-b.b * np ≡ c.args.shape.betas * length c.args.us.now * 2 ^ c.args.free) = let R = c.pow2.result in
          let m : c.args.shape.betas * length c.args.us.now ≡ length c.args.us.now = rw (c.requires.1, one-mul) in
          let k : c.loop-b.b * (length c.args.us.now * R) + length c.args.us.now * R - c.loop-b.b * (length c.args.us.now * R) ≡ length c.args.us.now * R = omega arith in
          k ∙ ap (λ i. length c.args.us.now * i) c.pow2.ensures ∙ ap (λ i. i * 2 ^ c.args.free) (sym m) in it),
    )

pub shape_of-room-then-not-stored_correlations : goal.shape_of-room-then-not-stored_correlations
shape_of-room-then-not-stored_correlations c = c.stored_correlations.auto.room ∙ c.loop-b.invariant.1.rooms

pub shape_of-factors-then-not-stored_correlations : goal.shape_of-factors-then-not-stored_correlations
shape_of-factors-then-not-stored_correlations c = c.lay_beta.auto.factors ∙ c.loop-b.invariant.1.laid

pub shape_of-signs-then-not-stored_correlations : goal.shape_of-signs-then-not-stored_correlations
shape_of-signs-then-not-stored_correlations c = c.stored_correlations.auto.signs ∙ c.loop-b.invariant.1.marks

pub shape_of-c-then-not-stored_correlations : goal.shape_of-c-then-not-stored_correlations
shape_of-c-then-not-stored_correlations c = c.stored_correlations.auto.c ∙ c.loop-b.invariant.1.results

pub shape_of-stored-then-not-stored_correlations : goal.shape_of-stored-then-not-stored_correlations
shape_of-stored-then-not-stored_correlations c = c.stored-1.given.1 ∙ c.loop-b.invariant.1.long

pub returns-then-not-stored_correlations : goal.returns-then-not-stored_correlations
returns-then-not-stored_correlations c =
    let a = c.args in
    let l = c.loop-b in
    let no : true ≡ false → ⊥ = λ z. (let z' : ◌≡◌ {A = ℕ} 0 1 = cc in omega arith) in
    λ J of.
    let plan = subst (λ (f : List Float). PlanOfRun (λ x. alone (J x) l.b) a.plan.now f (length a.bits.now) (enumerated_signs a.bits.now) a.shape) (sym c.lay_beta.ensures) (of l.b c.loop-b-test.true) in
    let said = rw c.requires.1 at (c.stored_correlations.ensures (λ x. alone (J x) l.b) plan).0 in
    (not_stored J _ _ _ l.b _ c.loop-b-test.true (sym (not-true _ c.if-not-stored_correlations.true-raw) ∙ said), λ z. absurd (no (sym z)))

pub loop-b-preserved : goal.loop-b-preserved
loop-b-preserved c =
    let a = c.args in
    let p = c.requires in
    let l = c.loop-b in
    let i = l.invariant.1 in
    let run = c.stored_correlations in
    let yes = not-false _ c.if-not-stored_correlations.false-raw in
    let np = length a.us.now * c.pow2.result in
    let at = l.b * np in
    let h = (let it : (let np = length c.args.us.now * c.pow2.result in c.loop-b.b * np + np ≤ length c.args.stored.now) = row_fits c.loop-b.b (length c.args.betas.now) (length c.args.us.now) c.pow2.result _ c.loop-b-test.true
    (c.requires.10 ∙ ap (λ i. length c.args.betas.now * length c.args.us.now * i) (sym c.pow2.ensures)) in it) in
    let fits : at + np ≤ length l.stored = omega (arith, h, i.long) in
    let full = run.auto.stored ∙ mid_len at (at + np) l.stored fits in
    let came = came_back l.stored _ at _ full in (
      l.invariant.0,
      record {
        below = omega (arith, c.loop-b-test.true);
        rooms = run.auto.room ∙ i.rooms;
        laid = c.lay_beta.auto.factors ∙ i.laid;
        marks = run.auto.signs ∙ i.marks;
        results = run.auto.c ∙ i.results;
        long = c.stored-1.given.1 ∙ i.long;
        rows = λ J of.
            let plan = subst (λ (f : List Float). PlanOfRun (λ x. alone (J x) l.b) a.plan.now f (length a.bits.now) (enumerated_signs a.bits.now) a.shape) (sym c.lay_beta.ensures) (of l.b c.loop-b-test.true) in
            let said = run.ensures (λ x. alone (J x) l.b) plan in
            stored_more J _ _ _ l.b _ l.stored _ _ _ c.pow2.result p.1 (pow_pos a.free) c.pow2.ensures (i.rows J of) (not-true _ (sym (rw p.1 at said.0) ∙ yes)) (said.1 yes)
            h came;
      },
    )

pub shape_of-room : goal.shape_of-room
shape_of-room c = c.loop-b.invariant.1.rooms

pub shape_of-factors : goal.shape_of-factors
shape_of-factors c = c.loop-b.invariant.1.laid

pub shape_of-signs : goal.shape_of-signs
shape_of-signs c = c.loop-b.invariant.1.marks

pub shape_of-c : goal.shape_of-c
shape_of-c c = c.loop-b.invariant.1.results

pub shape_of-stored : goal.shape_of-stored
shape_of-stored c = c.loop-b.invariant.1.long

pub returns : goal.returns
returns c =
    let i = c.loop-b.invariant.1 in
    let e : c.loop-b.b ≡ length c.args.betas.now = omega (arith, i.below, c.loop-b-test.false) in
    λ J of. let g = stored-all J _ _ _ _ _ _ _ e c.requires.10 (i.rows J of) in (g.0, λ _. g.1)
