use mathlib.Core.Path.{◌≡◌, sym, ◌∙◌}
use lib.ListN.{length}
use native.Mathlib.Omega.{arith}
use Rattle.propagation.proofs.Pairings.{front-more}
use Rattle.propagation.proofs.together.direct_pairs.Goals as goal

pub loop-k-init : goal.loop-k-init
loop-k-init c = (omega arith, λ j l. absurd (omega arith))

pub offset_bounds-us-p : goal.offset_bounds-us-p
offset_bounds-us-p c =
    let s = c in
    omega (arith, s.requires.1.all.inside c.loop-k.k (omega (arith, s.requires.1.all.long)), s.well_formed)

pub bounds-us-p : goal.bounds-us-p
bounds-us-p c =
    let s = c in
    s.requires.1.all.inside c.loop-k.k (omega (arith, s.requires.1.all.long))

pub offset_bounds-vs-p : goal.offset_bounds-vs-p
offset_bounds-vs-p c =
    let s = c in
    omega (arith, s.requires.1.all.inside c.loop-k.k (omega (arith, s.requires.1.all.long)), s.well_formed)

pub bounds-vs-p : goal.bounds-vs-p
bounds-vs-p c =
    let s = c in
    omega (arith, s.requires.1.all.inside c.loop-k.k (omega (arith, s.requires.1.all.long)), s.requires.0.matched)

pub is_propagated-requires : goal.is_propagated-requires
is_propagated-requires c = tt

pub returns-then-is_propagated : goal.returns-then-is_propagated
returns-then-is_propagated c =
    let at = c in
    let s = at in
    let far = sym c.is_propagated.ensures ∙ c.if-is_propagated.true in
    record {
      inside = at.loop-k.invariant.0;
      near = at.loop-k.invariant.1;
      far = λ k l b. s.requires.1.behind at.loop-k.k k l (omega (arith, s.requires.1.all.long)) far;
    }

pub loop-k-preserved : goal.loop-k-preserved
loop-k-preserved c =
    let at = c in
    let a = at.args in
    (omega arith, front-more a.us.now a.vs.now a.order.now _ _ at.loop-k.invariant.1 (sym c.is_propagated.ensures ∙ c.if-is_propagated.false))

pub returns : goal.returns
returns c =
    let e : c.loop-k.k ≡ length c.args.order.now = omega arith in
    record { inside = omega arith; near = rw e at c.loop-k.invariant.1; far = λ k l b. absurd (omega arith) }
