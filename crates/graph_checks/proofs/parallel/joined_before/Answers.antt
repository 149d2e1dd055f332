use Rattle.graph_checks.proofs.Chaining.{search_less}
use Rattle.graph_checks.proofs.Chaining.{search_start, search_hit, search_on, search_end}
use native.Mathlib.Omega.{arith}
use Rattle.graph_checks.proofs.parallel.joined_before.Goals as goal

pub loop-k-init : goal.loop-k-init
loop-k-init c = search_start _ _ _ _ c.requires.4

pub bounds-early-k : goal.bounds-early-k
bounds-early-k c = omega (arith, c.loop-k.invariant.within)

pub returns-then-early-k : goal.returns-then-early-k
returns-then-early-k c = search_hit _ _ _ _ c.loop-k-test.true c.loop-k.invariant c.if-early-k.true

pub bounds-next-k : goal.bounds-next-k
bounds-next-k c = omega (arith, c.loop-k.invariant.within)

pub loop-k-smaller : goal.loop-k-smaller
loop-k-smaller c =
    let turn = c in
    let start = turn in
    search_less _ _ _ start.args.next.now _ turn.loop-k-test.true turn.loop-k.invariant start.requires.3

pub loop-k-preserved : goal.loop-k-preserved
loop-k-preserved c =
    let turn = c in
    let start = turn in
    search_on _ _ _ start.args.next.now _ turn.loop-k-test.true turn.loop-k.invariant c.if-early-k.false start.requires.3

pub returns : goal.returns
returns c = search_end _ _ _ _ c.loop-k-test.false c.loop-k.invariant
