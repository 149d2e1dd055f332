use Rattle.std.proofs.Common.{◌≡◌, length, get_or, arith}
use lib.Ieee.{binary64, to_bits, nan}
use Rattle.replay_format.proofs.Laws.Words.{mixed-none, mixed-more}
use Rattle.replay_format.proofs.hash.mix_doubles.Goals as goal

pub loop-x-init : goal.loop-x-init
loop-x-init c = (mixed-none _ _, omega arith)

pub loop-x-preserved : goal.loop-x-preserved
loop-x-preserved c =
    let l = c in
    (mixed-more _ (λ j. to_bits binary64 (get_or l.args.xs.now j nan)) l.loop-x.x-index l.loop-x.invariant.0 c.bits_of.ensures c.mix-h.ensures, omega arith)

pub returns : goal.returns
returns c = let e : c.loop-x.x-index ≡ length c.args.xs.now = omega arith in rw e at c.loop-x.invariant.0
