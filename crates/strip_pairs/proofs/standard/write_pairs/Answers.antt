use Rattle.strip_pairs.proofs.Pairing.{pairs-more, shown-at, no_ends, no_pairs_written, all-pairs, lengths, next-room}
use native.Mathlib.Omega.{arith}
use Rattle.strip_pairs.proofs.standard.write_pairs.Goals as goal

pub loop-i-init : goal.loop-i-init
loop-i-init c = (no_ends _ _, no_pairs_written _ _ _ _ _, omega arith)

pub place_pair-next-requires : goal.place_pair-next-requires
place_pair-next-requires c = let i = c.loop-i.i in rw (shown-at c.args.w c.args.l i c.picked.result c.label_of.result.now c.picked.ensures (c.label_of.ensures.text _ _)) (next-room _ _ i c.loop-i.invariant.0 c.loop-i.invariant.1 c.requires.1 (omega arith))

pub loop-i-preserved : goal.loop-i-preserved
loop-i-preserved c = let i = c.loop-i.i in let w = c.args.w in let l = c.args.l in let e = shown-at w l i c.picked.result c.label_of.result.now c.picked.ensures (c.label_of.ensures.text _ _) in let p = rw e at c.place_pair-next.ensures in (rw (pairs-more w l i) (p.ends _ c.loop-i.invariant.0), rw (pairs-more w l i) (p.then _ _ _ _ c.loop-i.invariant.0 c.loop-i.invariant.1), omega arith)

pub shape_of-us : goal.shape_of-us
shape_of-us c = (lengths _ _ c.loop-i.i c.loop-i.invariant.0 c.loop-i.invariant.1 c.requires.1 c.loop-i.invariant.2).0

pub shape_of-vs : goal.shape_of-vs
shape_of-vs c = (lengths _ _ c.loop-i.i c.loop-i.invariant.0 c.loop-i.invariant.1 c.requires.1 c.loop-i.invariant.2).1

pub shape_of-labels : goal.shape_of-labels
shape_of-labels c = (lengths _ _ c.loop-i.i c.loop-i.invariant.0 c.loop-i.invariant.1 c.requires.1 c.loop-i.invariant.2).2

pub returns : goal.returns
returns c = all-pairs _ _ c.loop-i.i c.loop-i.invariant.1 c.loop-i-test.false c.loop-i.invariant.2
