-- The graph is set out as it is; where it is accepted, its edges are turned.
use Rattle.std.proofs.lemmas.Result.{err_from_is_err_and}
use Rattle.kept_edges.proofs.Laws.Fronts.{early-fits, late-fits}
use Rattle.graph_edges.proofs.Turning.{given, refused-turned, rotated_given, kept-below}
use Rattle.graph_edges.specs.Graphs.{too_short}
use Rattle.refusals.specs.Key.{Key}
use Rattle.refusals.specs.Request.{graph_request}
use Rattle.refusals.specs.Refusal.{of_graph_with_buffers}
use Rattle.refusals.proofs.Laws.First.{passed-at}
use Rattle.refusals.specs.Edges.{kept}
use mathlib.Core.Path.{refl}
use lib.ListN.{length}
use Rattle.graph_edges.proofs.Graph.rotated.Goals as goal

pub returns-in_err-g : goal.returns-in_err-g
returns-in_err-g c =
    let p = err_from_is_err_and c.from_residual.result c.from_residual.ensures.1 in
    rw (p.1, p.2) (refused-turned _ c.in_err-g.ensures)

pub turn-requires : goal.turn-requires
turn-requires c =
    let G = given _ c.in_ok-g.ensures in
    let x = c.args in
    let misfit = too_short (length (kept x.a.now x.b.now x.m.now)) x.early.now x.late.now x.mag.now x.raw.now in
    record {
      edges_in_bounds = (early-fits G.written, late-fits G.written);
      by_index =
          kept-below x.n G.written G.written.edges
          (passed-at of_graph_with_buffers (graph_request x.n x.a.now x.b.now x.m.now misfit) G.accepted Key.edge_ends refl);
    }

pub returns : goal.returns
returns c =
    let G = given _ c.in_ok-g.ensures in
    let x = c.args in
    let misfit = too_short (length (kept x.a.now x.b.now x.m.now)) x.early.now x.late.now x.mag.now x.raw.now in
    rotated_given _ G
    (passed-at of_graph_with_buffers (graph_request x.n x.a.now x.b.now x.m.now misfit) G.accepted Key.edge_ends refl) c.turn.ensures
