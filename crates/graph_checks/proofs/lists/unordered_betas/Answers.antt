use Rattle.list_laws.proofs.Laws.Search.{start, hit, miss, none}
use native.Mathlib.Omega.{arith}
use mathlib.Core.Path.{◌≡◌}
use Prim.Native.Nat.{◌+◌, ◌-◌}
use Rattle.graph_checks.proofs.lists.unordered_betas.Goals as goal

pub loop-i-init : goal.loop-i-init
loop-i-init c = (start _, omega arith)

pub returns-then-is_not_less : goal.returns-then-is_not_less
returns-then-is_not_less c =
    let e : c.loop-i.i - 1 + 1 ≡ c.loop-i.i = omega arith in
    hit _ _ (c.loop-i.i - 1) (omega arith) _ (rw e c.is_not_less.ensures) c.if-is_not_less.true

pub loop-i-preserved : goal.loop-i-preserved
loop-i-preserved c =
    let e : c.loop-i.i - 1 + 1 ≡ c.loop-i.i = omega arith in
    let next : c.loop-i.i + 1 - 1 ≡ c.loop-i.i - 1 + 1 = omega arith in
    (rw next (miss _ (c.loop-i.i - 1) c.loop-i.invariant.0 _ (rw e c.is_not_less.ensures) c.if-is_not_less.false), omega arith)

pub returns : goal.returns
returns c = none _ _ (c.loop-i.i - 1) c.loop-i.invariant.0 (omega arith) c.loop-i.invariant.1
