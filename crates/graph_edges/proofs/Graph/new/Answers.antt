-- The kept edges are set out again, in the lent lists, if the graph is accepted and they hold it.
use Rattle.std.proofs.lemmas.Result.{err_from_is_err_and}
use Rattle.graph_edges.specs.Graphs.{too_short}
use Rattle.graph_edges.proofs.Laws.Setting.{refused-set, short-set, kept_set}
use Rattle.kept_edges.proofs.Laws.Buffers.{buffers-before, buffers_here, buffers_not}
use Rattle.kept_edges.proofs.Laws.Fronts.{kept_fronts, is-accepted, of-kept}
use Rattle.transfer_matrix.specs.Job.{window_of}
use Rattle.refusals.specs.Edges.{kept}
use Rattle.refusals.specs.Request.{graph_request}
use Rattle.refusals.specs.Refusal.{refusal, of_graph_with_buffers}
use Rattle.refusals.proofs.Laws.Answers.{number-not_zero}
use Rattle.kept_edges.specs.Keep.{CheckedGraph}
use Rattle.std.specs.Prelude.{List, [], ℕ, Float, Ok}
use lib.ListN.{length}
use mathlib.Core.Bool.{Bool, true, false, cond}
use mathlib.Core.Path.{◌≡◌, refl, ◌∙◌}
use Rattle.graph_edges.proofs.Graph.new.Goals as goal

-- of a graph that passed its checks, only short lists are refused
then-short : {n : ℕ} {a b : List ℕ} {m : List Float} {k : ℕ} {early early' late late' : List ℕ} {mag mag' : List Float}
    (G : CheckedGraph n a b m [] [] [] (Ok k) early early' late late' mag mag') (short : Bool)
    → cond short 12 0 ≡ refusal of_graph_with_buffers (graph_request n a b m short)
then-short G true = buffers_here G true refl refl
then-short G false = buffers_not G false refl refl

pub returns-in_err-edges : goal.returns-in_err-edges
returns-in_err-edges c =
    let p = err_from_is_err_and c.from_residual.result c.from_residual.ensures.1 in
    let misfit : Bool = let x = c.args in too_short (length (kept x.a.now x.b.now x.m.now)) x.early.now x.late.now x.mag.now x.raw.now in
    rw (p.1, p.2) (refused-set _ _ _ _ _ _ _ _ _ (buffers-before c.in_err-edges.ensures misfit (number-not_zero _)))

pub window_of-win-requires : goal.window_of-win-requires
window_of-win-requires c = (kept_fronts c.in_ok-edges.ensures refl).ordered

pub write_kept-requires : goal.write_kept-requires
write_kept-requires c =
    let g = c.in_ok-edges.ensures in
    let l = (is-accepted g refl).0.lists in
    (l.others, l.magnitudes, g.written.edges)

pub returns-in_err-write_kept : goal.returns-in_err-write_kept
returns-in_err-write_kept c =
    let p = err_from_is_err_and c.from_residual-in_err-write_kept.result c.from_residual-in_err-write_kept.ensures.1 in
    let W = c.in_err-write_kept.ensures in
    let misfit : Bool = let x = c.args in too_short (length (kept x.a.now x.b.now x.m.now)) x.early.now x.late.now x.mag.now x.raw.now in
    rw (p.1, p.2) (short-set _ _ _ _ (W.refusal ∙ then-short c.in_ok-edges.ensures misfit) W)

pub returns : goal.returns
returns c =
    let g = c.in_ok-edges.ensures in
    let W = c.in_ok-write_kept.ensures in
    let misfit : Bool = let x = c.args in too_short (length (kept x.a.now x.b.now x.m.now)) x.early.now x.late.now x.mag.now x.raw.now in
    kept_set _ _ _ _ _ (W.refusal ∙ then-short g misfit) W g.written.edges
    (of-kept g.written (window_of c.args.floor) c.window_of-win.ensures)
