use mathlib.Core.Path.{sym, ◌∙◌}
use native.Mathlib.Omega.{arith}
use lib.Seq.{length-take-le}
use Rattle.forest.proofs.Laws.FreeEdges.{before-none, before-most}
use Rattle.forest.proofs.Laws.Growth.{lowest-begun, union_takes, lower-tree, lower-labels}
use Rattle.union_find.proofs.Laws.Filled.{filled_none, filled_more}
use Rattle.forest.proofs.Numbers.{next_bit, next-count, all-bits, all-counted}
use Rattle.forest.proofs.number_free_edges.Goals as goal

pub slice_bounds-p-end : goal.slice_bounds-p-end
slice_bounds-p-end c = sym (length-take-le _ _ (omega arith))

pub loop-e-init : goal.loop-e-init
loop-e-init c =
    let begun = c.start in
    let s = c in
    (lowest-begun _ _ (begun.auto.p ∙ length-take-le _ _ (omega arith)) begun.ensures, filled_none _ s.requires.2, sym (before-none _ _), omega arith)

pub union_lower-joins-requires : goal.union_lower-joins-requires
union_lower-joins-requires c =
    let l = c in
    let s = l in
    union_takes l.loop-e.invariant.0 s.requires.0 _ (omega arith)

pub with_edge-free-requires : goal.with_edge-free-requires
with_edge-free-requires c =
    let l = c in
    let s = l in
    omega (arith, before-most s.args.early.now s.args.late.now l.loop-e.e, l.loop-e.invariant.2)

pub loop-e-preserved : goal.loop-e-preserved
loop-e-preserved c =
    let l = c in
    let s = l in
    let L = l.loop-e.invariant.0 in
    let M = c.union_lower-joins.ensures in
    let t = lower-tree s.requires.0 _ (omega arith) L M in (
      lower-labels s.requires.0 _ (omega arith) L M,
      filled_more l.loop-e.invariant.1 (omega arith) (next_bit _ _ _ l.loop-e.invariant.2 t c.bit_or_none.ensures),
      next-count _ _ _ l.loop-e.invariant.2 t c.with_edge-free.ensures,
      omega arith,
    )

pub returns : goal.returns
returns c =
    let l = c.loop-e.invariant in
    (all-counted _ _ _ l.2 l.3 c.loop-e-test.false, all-bits _ _ l.1 c.loop-e-test.false)
