-- What the answer that was told says, for the strip that the numbers name.
use Rattle.strip_bonds.specs.Edges.{edges, unit_magnitudes}
use Rattle.strip_edges.specs.RawEdges.{raw_refusal}
use Rattle.c_values.specs.Kinds.{strip_numbered}
use Rattle.export_strips.proofs.Told.{edges-told}
use Rattle.export_strips.proofs.edges.copperhook_raw_edges.Goals as goal

pub returns : goal.returns
returns c =
    let a = c.args in
    let s = strip_numbered a.kind a.w a.l a.periodic in
    let n = c.strip_numbered.ensures in
    let left = c.raw_edges-answer.ensures in
    edges-told (raw_refusal s a.early.now a.late.now a.mag.now) s (unit_magnitudes (edges s)) a.early.now a.late.now a.mag.now (rw n at left.early_after) (rw n at left.late_after) (rw n at left.mag_after) (rw n at left.value) c.tell_number.ensures
