use borrow.Author.Tests.{eq-eqb, ne_eqb}
use Rattle.list_laws.proofs.Laws.Search.{start, hit, miss, none}
use native.Mathlib.Omega.{arith}
use mathlib.Core.Bool.{not}
use mathlib.Core.Path.{ap}
use Rattle.buffer_checks.proofs.factors.bad_factors.Goals as goal

pub returns-then-factors-count : goal.returns-then-factors-count
returns-then-factors-count c = simp (ne_eqb _ _ c.if-factors-count.true)

pub loop-x-init : goal.loop-x-init
loop-x-init c = (c.if-factors-count.false, start _, omega arith)

pub returns-then-not-passes : goal.returns-then-not-passes
returns-then-not-passes c =
    simp (eq-eqb _ _ c.loop-x.invariant.0)
    (hit _ _ _ c.loop-x-test.true _ (ap not c.passes.ensures) c.if-not-passes.true-raw)

pub loop-x-preserved : goal.loop-x-preserved
loop-x-preserved c =
    let i = c.loop-x.invariant in
    (i.0, miss _ _ i.1 _ (ap not c.passes.ensures) c.if-not-passes.false-raw, omega arith)

pub returns : goal.returns
returns c =
    simp (eq-eqb _ _ c.loop-x.invariant.0)
    (none _ _ c.loop-x.x-index c.loop-x.invariant.1 c.loop-x-test.false c.loop-x.invariant.2)
