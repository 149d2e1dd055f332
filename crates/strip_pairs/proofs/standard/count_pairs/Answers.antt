use mathlib.Core.Path.{◌≡◌}
use Rattle.strip_pairs.proofs.Pairing.{no_ends, count-ends}
use native.Mathlib.Omega.{arith}
use Rattle.strip_pairs.proofs.standard.count_pairs.Goals as goal

pub loop-i-init : goal.loop-i-init
loop-i-init c = (no_ends _ _, omega arith, omega arith, omega arith)

pub loop-i-preserved : goal.loop-i-preserved
loop-i-preserved c = let i = c.loop-i.i in let n = c.counted-next.ensures in (count-ends _ _ i c.loop-i.invariant.0 n c.picked.ensures (c.label_of-name.ensures.text _ _), omega arith, omega arith, omega arith)

pub returns : goal.returns
returns c = let e : c.loop-i.i ≡ 18 = omega arith in let n = rw e at c.loop-i.invariant.0 in (n.pairs, n.bytes)
