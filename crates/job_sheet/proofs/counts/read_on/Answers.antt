-- The parts one after another; no count is above the place.
use native.Mathlib.Omega.{arith}
use Rattle.job_sheet.proofs.Laws.Records.{length-positive}
use Rattle.job_sheet.proofs.Laws.Counts.{behind-is}
use Rattle.job_sheet.proofs.counts.read_on.Goals as goal

pub count_kind-requires : goal.count_kind-requires
count_kind-requires c = let a = c.args in omega (arith, c.requires.0.edges, length-positive a.kind)

pub count_kind-requires-2 : goal.count_kind-requires-2
count_kind-requires-2 c = let a = c.args in omega (arith, c.requires.0.betas, length-positive a.kind)

pub count_kind-requires-3 : goal.count_kind-requires-3
count_kind-requires-3 c =
    let a = c.args in
    omega (arith, c.requires.0.pairs, length-positive a.kind)

pub returns : goal.returns
returns c =
    let k = c.before.before in
    behind-is _ _ k.record_length.ensures k.count_kind.ensures c.count_kind-2.ensures c.count_kind-3.ensures
