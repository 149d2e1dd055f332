-- The count and the marks of the kept edges, if the graph is accepted.
use Rattle.std.proofs.lemmas.Result.{err_from_is_err_and}
use Rattle.graph.proofs.Building.{kept_fronts, joined, of-kept}
use Rattle.graph.proofs.Setting.{marks-alone, marks-set}
use Rattle.forest.specs.Components.{component_count}
use Rattle.forest.specs.Lowest.{lowest_marks}
use Rattle.kept_edges.proofs.Laws.Fronts.{kept-edges, is-accepted}
use Rattle.refusals.proofs.Laws.Answers.{number-not_zero}
use mathlib.Core.Path.{refl}
use Rattle.graph.proofs.graph.n_components.Goals as goal

pub returns-in_err-edges : goal.returns-in_err-edges
returns-in_err-edges c =
    let p = err_from_is_err_and c.from_residual.result c.from_residual.ensures.1 in
    let r = c.in_err-edges.ensures.refusal in
    rw (p.1, p.2) (record { value = (r, tt); component_marks = marks-alone _ _ _ _ _ r (number-not_zero _) })

pub mark_components-marked-requires : goal.mark_components-marked-requires
mark_components-marked-requires c =
    let graph = kept_fronts c.in_ok-edges.ensures refl in
    (joined graph, graph.few)

pub returns : goal.returns
returns c =
    let g = c.in_ok-edges.ensures in
    let n = c.args.n in
    let marked = c.mark_components-marked.ensures in
    record {
      value = (g.refusal, of-kept g.written (component_count n) marked.0);
      component_marks =
          marks-set _ _ _ _ _ _ g.refusal refl (kept-edges _ _ _ _ (is-accepted g refl).0) (of-kept g.written (lowest_marks n) marked.1);
    }
