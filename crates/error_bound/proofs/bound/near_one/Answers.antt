use mathlib.Core.Bool.{not}
use native.Mathlib.Omega.{arith}
use Rattle.list_laws.proofs.Laws.Search.{start, hit, miss, none}
use mathlib.Core.Path.{ap}
use Rattle.error_bound.proofs.bound.near_one.Goals as goal

pub loop-x-init : goal.loop-x-init
loop-x-init c = (start _, omega arith)

pub returns-then-not-inside_powers : goal.returns-then-not-inside_powers
returns-then-not-inside_powers c = ap not (hit _ _ _ c.loop-x-test.true _ (ap not c.inside_powers.ensures) c.if-not-inside_powers.true-raw)

pub loop-x-preserved : goal.loop-x-preserved
loop-x-preserved c =
    let i = c.loop-x.invariant in
    (miss _ _ i.0 _ (ap not c.inside_powers.ensures) c.if-not-inside_powers.false-raw, omega arith)

pub returns : goal.returns
returns c = ap not (none _ _ c.loop-x.x-index c.loop-x.invariant.0 c.loop-x-test.false c.loop-x.invariant.1)
