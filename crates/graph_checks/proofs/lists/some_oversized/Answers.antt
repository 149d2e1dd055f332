use Rattle.refusals.proofs.Laws.Dropping.{dropping-length}
use Rattle.refusals.specs.Request.{oversized}
use Rattle.list_laws.proofs.Laws.Search.{start, hit, miss, none}
use native.Mathlib.Omega.{arith}
use mathlib.Core.Path.{ap, ◌∙◌}
use Rattle.graph_checks.proofs.lists.some_oversized.Goals as goal

pub loop-i-init : goal.loop-i-init
loop-i-init c = (start _, omega arith)

pub returns-then-is_oversized : goal.returns-then-is_oversized
returns-then-is_oversized c =
    let x = c.args in
    hit _ _ _ (omega (arith, c.loop-i-test.true, dropping-length x.dropped x.m.now)) _
    (c.is_oversized.ensures ∙ ap oversized c.magnitude_dropping.ensures) c.if-is_oversized.true

pub loop-i-preserved : goal.loop-i-preserved
loop-i-preserved c = (
  miss _ _ c.loop-i.invariant.0 _
      (c.is_oversized.ensures ∙ ap oversized c.magnitude_dropping.ensures) c.if-is_oversized.false,
  omega arith,
)

pub returns : goal.returns
returns c =
    let x = c.args in
    let l = dropping-length x.dropped x.m.now in
    none _ _ c.loop-i.i c.loop-i.invariant.0 (omega (arith, l, c.loop-i-test.false)) (omega (arith, l, c.loop-i.invariant.1))
