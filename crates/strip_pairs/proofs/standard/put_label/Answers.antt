use mathlib.Core.Path.{◌≡◌}
use native.Mathlib.Omega.{arith}
use lib.ListN.{length, length-set}
use Rattle.std.proofs.Math.Seq.{take-length}
use Rattle.strip_pairs.proofs.Pairing.{put-none, put-more, put-end}
use Rattle.strip_pairs.proofs.standard.put_label.Goals as goal

pub loop-j-init : goal.loop-j-init
loop-j-init c = (put-none _ _ _, omega arith)

pub loop-j-preserved : goal.loop-j-preserved
loop-j-preserved c = (put-more _ _ _ c.loop-j.invariant.0 (omega arith) (omega arith), omega arith)

pub shape_of-labels : goal.shape_of-labels
shape_of-labels c = simp length-set c.loop-j.invariant.0.length-kept

pub returns : goal.returns
returns c =
    let bytes = c.args.name.now in
    let e : c.loop-j.j ≡ length bytes = omega arith in
    rw (take-length bytes) at (put-end _ _ _ (rw e at c.loop-j.invariant.0) (omega arith) (omega arith))
