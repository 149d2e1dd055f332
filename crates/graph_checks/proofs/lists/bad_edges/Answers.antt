use Rattle.list_laws.proofs.Laws.Search.{start, hit, miss, none}
use native.Mathlib.Omega.{arith}
use Rattle.graph_checks.proofs.lists.bad_edges.Goals as goal

pub loop-i-init : goal.loop-i-init
loop-i-init c = (start _, omega arith)

pub returns-then-bad_edge : goal.returns-then-bad_edge
returns-then-bad_edge c = hit _ _ _ c.loop-i-test.true _ c.bad_edge.ensures c.if-bad_edge.true

pub loop-i-preserved : goal.loop-i-preserved
loop-i-preserved c = (miss _ _ c.loop-i.invariant.0 _ c.bad_edge.ensures c.if-bad_edge.false, omega arith)

pub returns : goal.returns
returns c = none _ _ c.loop-i.i c.loop-i.invariant.0 c.loop-i-test.false c.loop-i.invariant.1
