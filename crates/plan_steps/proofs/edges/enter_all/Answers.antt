use mathlib.Core.Path.{◌≡◌, refl, ◌∙◌}
use Prim.Native.Nat.{ℕ}
use native.Mathlib.Omega.{arith}
use lib.ListN.{length}
use Rattle.plan_steps.proofs.Entering.{was_true, was_false, rows_start, row-rising, rows_iteration, too_many, not_too_many}
use Rattle.plan_steps.proofs.Steps.{steps_of}
use Rattle.plan_steps.proofs.edges.enter_all.Goals as goal

pub loop-e-init : goal.loop-e-init
loop-e-init c = (omega arith, refl, rows_start _ _ _ _ _ c.clear_rows.ensures)

pub overflow_sub-d : goal.overflow_sub-d
overflow_sub-d c =
    let g = c.requires.0 in
    omega (arith, g.ordered c.loop-e.e c.loop-e-test.true)

pub enter-requires : goal.enter-requires
enter-requires c =
    let at = c in
    let s = c in
    let g = s.requires.0 in
    let b = c.loop-e-test.true in
    let i = g.inside at.loop-e.e b in
    let r = at.loop-e.invariant.2 _ i in (
      omega (arith, s.requires.1, i, at.loop-e.invariant.1, c.clear_rows.auto.plan),
      r.few,
      row-rising _ _ _ _ _ _ r,
      omega (arith, g.ordered at.loop-e.e b),
      omega arith,
    )

pub returns-then-not-enter : goal.returns-then-not-enter
returns-then-not-enter c =
    let at = c in
    let s = c in (
      too_many _ _ _ _ _ s.requires.0 c.loop-e-test.true _ _ at.loop-e.invariant.2 _ (was_false _ c.if-not-enter.true-raw) c.enter.ensures,
      λ x. absurd (let o : ◌≡◌ {A = ℕ} 0 1 = cc in omega arith),
    )

pub loop-e-preserved : goal.loop-e-preserved
loop-e-preserved c =
    let at = c in
    let s = c in
    let b = c.loop-e-test.true in (
      omega (arith, b),
      c.enter.auto.plan ∙ at.loop-e.invariant.1,
      rows_iteration _ _ _ _ _ s.requires.0 b _ _ at.loop-e.invariant.2 _ (was_true _ c.if-not-enter.false-raw) c.enter.ensures,
    )

pub returns : goal.returns
returns c =
    let at = c in
    let s = c in
    let e : at.loop-e.e ≡ length s.args.early.now = omega arith in
    let rows = rw e at at.loop-e.invariant.2 in
    (not_too_many _ _ _ _ _ rows, λ x. steps_of _ _ _ _ _ s.requires.0.wide rows)
