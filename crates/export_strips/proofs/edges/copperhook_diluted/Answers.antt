-- What the answer that was told says, for the strip that the numbers name.
use lib.ListN.{length}
use Rattle.strip_bonds.specs.Edges.{edges}
use Rattle.strip_dilution.specs.Diluted.{dilution, magnitudes, diluted_refusal}
use Rattle.c_values.specs.Kinds.{strip_numbered}
use Rattle.export_strips.proofs.Told.{edges-told}
use Rattle.export_strips.proofs.edges.copperhook_diluted.Goals as goal

pub returns : goal.returns
returns c =
    let a = c.args in
    let s = strip_numbered a.kind a.w a.l a.periodic in
    let n = c.strip_numbered.ensures in
    let left = c.diluted-answer.ensures in
    edges-told (diluted_refusal s (dilution a.keep a.low a.high) a.early.now a.late.now a.mag.now) s (magnitudes (dilution a.keep a.low a.high) a.seed (length (edges s))) a.early.now a.late.now a.mag.now (rw n at left.early_after) (rw n at left.late_after) (rw n at left.mag_after) (rw n at left.value) c.tell_number.ensures
