-- After the store of a pair's ends the list holds the ends of one pair more.
use Rattle.std.proofs.Common.{add-one, arith}
use Rattle.c_pair_records.proofs.Growing.{pair-more}
use Rattle.c_pair_records.proofs.gather.Goals as goal

pub loop-i-preserved : goal.loop-i-preserved
loop-i-preserved c =
    let more = pair-more c.args.pairs.now c.loop-i.i c.loop-i.e c.push-e.result (omega arith) (omega arith) c.loop-i.invariant.0 c.push-e.ensures in
    (rw add-one more, omega arith)
