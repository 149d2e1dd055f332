use mathlib.Core.Path.{◌≡◌, refl, ◌∙◌}
use Prim.Native.Nat.{ℕ}
use native.Mathlib.Omega.{arith}
use lib.ListN.{length}
use Rattle.plan_steps.proofs.Counting.{counts_left, counts_near, counted-few}
use Rattle.plan_steps.proofs.edges.count_near.Goals as goal
use Rattle.plan_steps.proofs.edges.count_near.Goals.{then-d-w+else-c-eq-MOST_NEAR, else-d-w}

pub loop-e-init : goal.loop-e-init
loop-e-init c = (omega arith, refl, c.requires.1)

pub overflow_sub-d : goal.overflow_sub-d
overflow_sub-d c = omega (arith, c.requires.0.ordered c.loop-e.e c.loop-e-test.true)

pub offset_bounds-counts-t : goal.offset_bounds-counts-t
offset_bounds-counts-t c =
    let in-loop = c in
    let at = in-loop in
    let g = at.requires.0 in
    let i = g.inside at.loop-e.e in-loop.loop-e-test.true in
    omega (arith, i, g.few)

pub bounds-counts-t : goal.bounds-counts-t
bounds-counts-t c =
    let in-loop = c in
    let at = in-loop in
    let g = at.requires.0 in
    let i = g.inside at.loop-e.e in-loop.loop-e-test.true in
    omega (arith, i, at.loop-e.invariant.2.long)

pub returns-then-c-eq-MOST_NEAR : goal.returns-then-c-eq-MOST_NEAR
returns-then-c-eq-MOST_NEAR c = λ x. absurd (let o : ◌≡◌ {A = ℕ} 0 1 = cc in omega arith)

pub overflow_add-counts : goal.overflow_add-counts
overflow_add-counts c =
    let in-loop = c in
    let at = in-loop in
    let g = at.requires.0 in
    let i = g.inside at.loop-e.e in-loop.loop-e-test.true in
    omega (arith, at.loop-e.invariant.2.few _ i)

pub offset_bounds-counts-t-then-d-w : goal.offset_bounds-counts-t-then-d-w
offset_bounds-counts-t-then-d-w c =
    let in-loop = c in
    let at = in-loop in
    let g = at.requires.0 in
    let i = g.inside at.loop-e.e in-loop.loop-e-test.true in
    omega (arith, i, g.few)

pub bounds-counts-t-then-d-w : goal.bounds-counts-t-then-d-w
bounds-counts-t-then-d-w c =
    let in-loop = c in
    let at = in-loop in
    let g = at.requires.0 in
    let i = g.inside at.loop-e.e in-loop.loop-e-test.true in
    omega (arith, i, at.loop-e.invariant.2.long)

pub loop-e-preserved : goal.loop-e-preserved
loop-e-preserved c =
    let b = c.loop-e-test.true in
    let i = c.loop-e.invariant in
    let g = c.requires.0 in
    elim c.if-d-w.branch [
      | then-d-w+else-c-eq-MOST_NEAR w ↦ (
        omega (arith, b),
        c.if-d-w.auto.counts ∙ i.1,
        rw w.counts-is (counts_near _ _ _ _ _ _ g b i.2 w.if-d-w.true w.if-c-eq-MOST_NEAR.false),
      )
      | else-d-w w ↦ (omega (arith, b), c.if-d-w.auto.counts ∙ i.1, rw w.counts-is (counts_left _ _ _ _ _ _ g b i.2 w.if-d-w.false))
    ]

pub returns : goal.returns
returns c =
    let at = c in
    let e : at.loop-e.e ≡ length at.args.early.now = omega arith in
    λ x. counted-few _ _ _ _ _ (rw e at at.loop-e.invariant.2)
