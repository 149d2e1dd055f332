use Rattle.list_laws.proofs.Laws.Search.{hit, none}
use Rattle.graph_checks.proofs.Chaining.{finding_start, finding_more}
use lib.ListN.{length, get_or}
use Prim.Native.Nat.{◌<◌}
use native.Mathlib.Omega.{arith}
use Rattle.graph_checks.proofs.parallel.find_twice.Goals as goal

pub loop-e-init : goal.loop-e-init
loop-e-init c = finding_start _ _ _ _ c.requires.late_len.2

pub offset_bounds-heads-v : goal.offset_bounds-heads-v
offset_bounds-heads-v c = omega (
  arith,
  (let it : (let l = c.loop-e in get_or c.args.late.now l.e 0 < length l.heads) = let l = c.loop-e in
      omega (arith, c.requires.by_index l.e (omega arith), l.invariant.vertices) in it),
)

pub bounds-heads-v : goal.bounds-heads-v
bounds-heads-v c = omega (
  arith,
  (let it : (let l = c.loop-e in get_or c.args.late.now l.e 0 < length l.heads) = let l = c.loop-e in
      omega (arith, c.requires.by_index l.e (omega arith), l.invariant.vertices) in it),
)

pub joined_before-requires : goal.joined_before-requires
joined_before-requires c =
    let inv = c.loop-e.invariant in
    let start = c.requires.late_len in (
      start.0,
      omega arith,
      omega (arith, inv.within, inv.nexts, start.1),
      inv.chain,
      inv.lasts _ ((let it : (let l = c.loop-e in get_or c.args.late.now l.e 0 < length l.heads) = let l = c.loop-e in
          omega (arith, c.requires.by_index l.e (omega arith), l.invariant.vertices) in it)),
    )

pub returns-then-joined_before : goal.returns-then-joined_before
returns-then-joined_before c = hit _ _ _ c.loop-e-test.true _ c.joined_before.ensures c.if-joined_before.true

pub offset_bounds-heads-v-in-loop-e : goal.offset_bounds-heads-v-in-loop-e
offset_bounds-heads-v-in-loop-e c = omega (
  arith,
  (let it : (let l = c.loop-e in get_or c.args.late.now l.e 0 < length l.heads) = let l = c.loop-e in
      omega (arith, c.requires.by_index l.e (omega arith), l.invariant.vertices) in it),
)

pub bounds-heads-v-in-loop-e : goal.bounds-heads-v-in-loop-e
bounds-heads-v-in-loop-e c = omega (
  arith,
  (let it : (let l = c.loop-e in get_or c.args.late.now l.e 0 < length l.heads) = let l = c.loop-e in
      omega (arith, c.requires.by_index l.e (omega arith), l.invariant.vertices) in it),
)

pub loop-e-preserved : goal.loop-e-preserved
loop-e-preserved c =
    let inv = c.loop-e.invariant in
    finding_more _ _ _ _ _ _ _ inv (omega arith) c.requires.late_len.1 (omega (
      arith,
      (let it : (let l = c.loop-e in get_or c.args.late.now l.e 0 < length l.heads) = let l = c.loop-e in
          omega (arith, c.requires.by_index l.e (omega arith), l.invariant.vertices) in it),
      inv.vertices,
    )) _
    c.joined_before.ensures c.if-joined_before.false

pub returns : goal.returns
returns c = none _ _ c.loop-e.e c.loop-e.invariant.none c.loop-e-test.false c.loop-e.invariant.within
