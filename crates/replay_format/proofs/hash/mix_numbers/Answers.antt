use Rattle.std.proofs.Common.{◌≡◌, length, get_or, refl, arith}
use Rattle.replay_format.proofs.Laws.Words.{mixed-none, mixed-more}
use Rattle.replay_format.proofs.hash.mix_numbers.Goals as goal

pub loop-x-init : goal.loop-x-init
loop-x-init c = (mixed-none _ _, omega arith)

pub loop-x-preserved : goal.loop-x-preserved
loop-x-preserved c =
    let l = c in
    (mixed-more _ (λ j. get_or l.args.xs.now j 0) l.loop-x.x-index l.loop-x.invariant.0 refl c.mix_number-h.ensures, omega arith)

pub returns : goal.returns
returns c = let e : c.loop-x.x-index ≡ length c.args.xs.now = omega arith in rw e at c.loop-x.invariant.0
