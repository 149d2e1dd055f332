-- The kept edges are counted by their places; then they are written out, if the lists hold them.
use Rattle.std.proofs.lemmas.Result.{err_from_is_err_and}
use mathlib.Core.Path.{◌∙◌}
use Rattle.graph_edges.proofs.Laws.Setting.{short-set, kept_set}
use Rattle.strip_graph.proofs.Laws.Window.{window_stays}
use Rattle.strip_graph.proofs.Diluting.{few-places, places-counted}
use Rattle.strip_graph.proofs.graph_of.Goals as goal

pub keep_places-edges-requires : goal.keep_places-edges-requires
keep_places-edges-requires c = let x = c.args in few-places x.a.now x.b.now x.m.now c.requires.1 c.requires.2

pub write_kept-requires : goal.write_kept-requires
write_kept-requires c =
    let x = c.args in
    (c.requires.0.lengths, c.requires.1, places-counted x.a.now x.b.now x.m.now c.keep_places-edges.ensures c.requires.1)

pub returns-in_err-write_kept : goal.returns-in_err-write_kept
returns-in_err-write_kept c =
    let p = err_from_is_err_and c.from_residual.result c.from_residual.ensures.1 in
    let W = c.in_err-write_kept.ensures in
    rw (p.1, p.2) (short-set _ _ _ _ W.refusal W)

pub returns : goal.returns
returns c =
    let x = c.args in
    let W = c.in_ok-write_kept.ensures in
    kept_set _ _ _ _ _ W.refusal W (places-counted x.a.now x.b.now x.m.now c.keep_places-edges.ensures c.requires.1)
    (c.window_of-win.ensures ∙ window_stays x.a.now x.b.now x.m.now c.requires.0)
