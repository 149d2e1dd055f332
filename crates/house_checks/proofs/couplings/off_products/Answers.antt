use Rattle.list_laws.proofs.Laws.Search.{start, hit, miss, none}
use native.Mathlib.Omega.{arith}
use Rattle.house_checks.proofs.couplings.off_products.Goals as goal

pub loop-m-init : goal.loop-m-init
loop-m-init c = (start _, omega arith)

pub returns-then-off_grid : goal.returns-then-off_grid
returns-then-off_grid c = hit _ _ _ c.loop-m-test.true _ c.off_grid.ensures c.if-off_grid.true

pub loop-m-preserved : goal.loop-m-preserved
loop-m-preserved c = let i = c.loop-m.invariant in (miss _ _ i.0 _ c.off_grid.ensures c.if-off_grid.false, omega arith)

pub returns : goal.returns
returns c = none _ _ c.loop-m.m-index c.loop-m.invariant.0 c.loop-m-test.false c.loop-m.invariant.1
