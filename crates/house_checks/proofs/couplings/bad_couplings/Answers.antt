use borrow.Author.Tests.{eq-eqb, ne_eqb}
use Rattle.list_laws.proofs.Laws.Search.{start, hit, miss, none}
use native.Mathlib.Omega.{arith}
use Rattle.house_checks.proofs.couplings.bad_couplings.Goals as goal

pub returns-then-couplings-count : goal.returns-then-couplings-count
returns-then-couplings-count c = simp (ne_eqb _ _ c.if-couplings-count.true)

pub loop-x-init : goal.loop-x-init
loop-x-init c = (c.if-couplings-count.false, start _, omega arith)

pub returns-then-off_grid : goal.returns-then-off_grid
returns-then-off_grid c =
    simp (eq-eqb _ _ c.loop-x.invariant.0)
    (hit _ _ _ c.loop-x-test.true _ c.off_grid.ensures c.if-off_grid.true)

pub loop-x-preserved : goal.loop-x-preserved
loop-x-preserved c =
    let i = c.loop-x.invariant in
    (i.0, miss _ _ i.1 _ c.off_grid.ensures c.if-off_grid.false, omega arith)

pub returns : goal.returns
returns c =
    simp (eq-eqb _ _ c.loop-x.invariant.0)
    (none _ _ c.loop-x.x-index c.loop-x.invariant.1 c.loop-x-test.false c.loop-x.invariant.2)
