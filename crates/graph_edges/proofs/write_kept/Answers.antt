-- The lists are measured; then the edges are kept in them, and their places.
use mathlib.Core.Bool.{false}
use mathlib.Core.Path.{◌≡◌}
use lib.ListN.{length}
use Rattle.refusals.specs.Edges.{kept}
use Rattle.refusals.proofs.Laws.First.{told}
use Rattle.graph_edges.specs.Graphs.{too_short}
use Rattle.graph_edges.proofs.Setting.{holds-all, holds-places, written-short, written_all}
use Rattle.graph_edges.proofs.write_kept.Goals as goal

pub returns-then-is_too_short : goal.returns-then-is_too_short
returns-then-is_too_short c = written-short _ _ _ _ _ _ _ (rw (← c.requires.2) (told c.is_too_short.ensures c.if-is_too_short.true))

pub keep-requires : goal.keep-requires
keep-requires c =
    let start = c in
    let x = start.args in
    (start.requires.0, start.requires.1, (holds-all _ x.early.now x.late.now x.mag.now x.raw.now ((let it : (let x = c.args in too_short (length (kept x.a.now x.b.now x.m.now)) x.early.now x.late.now x.mag.now x.raw.now ≡ false) = rw (← c.requires.2) (told c.is_too_short.ensures c.if-is_too_short.false) in it))).0)

pub keep_places-requires : goal.keep_places-requires
keep_places-requires c =
    let start = c in
    let x = start.args in
    holds-places x.a.now x.b.now x.m.now x.raw.now start.requires.1
    (holds-all _ x.early.now x.late.now x.mag.now x.raw.now ((let it : (let x = c.args in too_short (length (kept x.a.now x.b.now x.m.now)) x.early.now x.late.now x.mag.now x.raw.now ≡ false) = rw (← c.requires.2) (told c.is_too_short.ensures c.if-is_too_short.false) in it))).1

pub returns : goal.returns
returns c = written_all c.requires.1 ((let it : (let x = c.args in too_short (length (kept x.a.now x.b.now x.m.now)) x.early.now x.late.now x.mag.now x.raw.now ≡ false) = rw (← c.requires.2) (told c.is_too_short.ensures c.if-is_too_short.false) in it)) c.keep.ensures c.keep_places.ensures
