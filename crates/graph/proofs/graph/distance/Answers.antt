-- The distance by the kept edges, if the graph is accepted and both ends are inside.
use Rattle.std.proofs.lemmas.Result.{err_from_is_err_and}
use Rattle.graph.proofs.Building.{pair-before, pair_here, pair_not, kept_fronts, joined, distance-kept}
use Rattle.graph.proofs.Setting.{inside_both, refused-distance, told-distance}
use Rattle.refusals.proofs.Laws.Answers.{number-not_zero}
use Rattle.refusals.proofs.Laws.First.{told}
use native.Mathlib.Omega.{arith}
use mathlib.Core.Path.{refl}
use Rattle.graph.proofs.graph.distance.Goals as goal

pub returns-in_err-edges : goal.returns-in_err-edges
returns-in_err-edges c =
    let p = err_from_is_err_and c.from_residual.result c.from_residual.ensures.1 in
    rw (p.1, p.2) (refused-distance _ (pair-before c.in_err-edges.ensures c.args.u c.args.v (number-not_zero _)))

pub returns-then-is_outside : goal.returns-then-is_outside
returns-then-is_outside c =
    refused-distance _ (pair_here c.in_ok-edges.ensures c.args.u c.args.v refl (told c.is_outside.ensures c.if-is_outside.true))

pub shortest_walk-requires : goal.shortest_walk-requires
shortest_walk-requires c =
    let x = c.args in
    let graph = kept_fronts c.in_ok-edges.ensures refl in
    let e = joined graph in
    let i = inside_both x.n x.u x.v (told c.is_outside.ensures c.if-is_outside.false) in (
      e.paired,
      λ j h. (omega (arith, graph.few, e.early-below j h), omega (arith, graph.few, e.late_below j h)),
      omega (arith, graph.few, i.0),
      omega (arith, graph.few, i.1),
    )

pub returns : goal.returns
returns c =
    let g = c.in_ok-edges.ensures in
    told-distance _ (pair_not g c.args.u c.args.v refl (told c.is_outside.ensures c.if-is_outside.false))
    (distance-kept g.written _ _ _ c.shortest_walk.ensures)
