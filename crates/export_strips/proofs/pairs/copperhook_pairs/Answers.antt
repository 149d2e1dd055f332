-- What the answer that was told says, for the strip that the numbers name.
use Rattle.strip_pairs.specs.PairSet.{pair_set, pairs_refusal}
use Rattle.c_values.specs.Kinds.{strip_numbered}
use Rattle.export_strips.proofs.Told.{pairs-told}
use Rattle.export_strips.proofs.pairs.copperhook_pairs.Goals as goal

pub returns : goal.returns
returns c =
    let a = c.args in
    let s = strip_numbered a.kind a.w a.l a.periodic in
    let n = c.strip_numbered.ensures in
    let left = c.pairs-answer.ensures in
    pairs-told (pairs_refusal s a.us.now a.vs.now a.labels.now) (pair_set s) a.us.now a.vs.now a.labels.now (rw n at left.us_after) (rw n at left.vs_after) (rw n at left.labels_after) (rw n at left.value) c.tell_number.ensures
