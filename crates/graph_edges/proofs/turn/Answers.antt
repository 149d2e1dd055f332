use Rattle.graph_edges.proofs.Turning.{turning_none, turning_more, turning_all, early-waits, late-waits}
use lib.ListN.{get_or}
use Prim.Native.Nat.{◌<◌}
use native.Mathlib.Omega.{arith}
use Rattle.graph_edges.proofs.turn.Goals as goal

pub loop-e-init : goal.loop-e-init
loop-e-init c = turning_none _ _ _ _

pub overflow_sub-early : goal.overflow_sub-early
overflow_sub-early c = let below = (let it : (let l = c.loop-e in (get_or l.early l.e 0 < c.args.n) × (get_or l.late l.e 0 < c.args.n)) = let l = c.loop-e in
    let inside = c.requires.by_index l.e (omega arith) in
    (omega (arith, inside.0, early-waits l.invariant), omega (arith, inside.1, late-waits l.invariant)) in it) in omega (arith, below.0, below.1)

pub overflow_sub-early-in-loop-e : goal.overflow_sub-early-in-loop-e
overflow_sub-early-in-loop-e c = let below = (let it : (let l = c.loop-e in (get_or l.early l.e 0 < c.args.n) × (get_or l.late l.e 0 < c.args.n)) = let l = c.loop-e in
    let inside = c.requires.by_index l.e (omega arith) in
    (omega (arith, inside.0, early-waits l.invariant), omega (arith, inside.1, late-waits l.invariant)) in it) in omega (arith, below.0, below.1)

pub overflow_sub-late : goal.overflow_sub-late
overflow_sub-late c = let below = (let it : (let l = c.loop-e in (get_or l.early l.e 0 < c.args.n) × (get_or l.late l.e 0 < c.args.n)) = let l = c.loop-e in
    let inside = c.requires.by_index l.e (omega arith) in
    (omega (arith, inside.0, early-waits l.invariant), omega (arith, inside.1, late-waits l.invariant)) in it) in omega (arith, below.0, below.1)

pub overflow_sub-late-in-loop-e : goal.overflow_sub-late-in-loop-e
overflow_sub-late-in-loop-e c = let below = (let it : (let l = c.loop-e in (get_or l.early l.e 0 < c.args.n) × (get_or l.late l.e 0 < c.args.n)) = let l = c.loop-e in
    let inside = c.requires.by_index l.e (omega arith) in
    (omega (arith, inside.0, early-waits l.invariant), omega (arith, inside.1, late-waits l.invariant)) in it) in omega (arith, below.0, below.1)

pub loop-e-preserved : goal.loop-e-preserved
loop-e-preserved c = turning_more c.loop-e.invariant (omega arith) (omega arith) (omega arith)

pub returns : goal.returns
returns c = turning_all c.loop-e.invariant c.loop-e-test.false
