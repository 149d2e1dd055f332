-- The names of the components, if the graph is accepted and the buffer fits.
use Rattle.std.proofs.lemmas.Result.{err_from_is_err_and}
use Rattle.graph.specs.Graphs.{component_names}
use Rattle.graph.proofs.Building.{buffers-before, buffers_here, buffers_not, kept_fronts, joined, of-kept}
use Rattle.refusals.proofs.Laws.Answers.{number-not_zero, left_alone}
use borrow.Author.Tests.{eq-eqb, ne_eqb}
use lib.ListN.{length}
use lib.Dec.{eqb}
use mathlib.Core.Bool.{not}
use mathlib.Core.Path.{refl, ap}
use Rattle.graph.proofs.graph.components.Goals as goal

pub returns-in_err-edges : goal.returns-in_err-edges
returns-in_err-edges c =
    let p = err_from_is_err_and c.from_residual.result c.from_residual.ensures.1 in
    rw (p.1, p.2) (buffers-before c.in_err-edges.ensures (not (eqb (length c.args.out.now) c.args.n)) (number-not_zero _), left_alone _ _ _ (number-not_zero _))

pub returns-then-out-n : goal.returns-then-out-n
returns-then-out-n c = (buffers_here c.in_ok-edges.ensures (not (eqb (length c.args.out.now) c.args.n)) refl (ap not (ne_eqb _ _ c.if-out-n.true)), refl)

pub name_components-requires : goal.name_components-requires
name_components-requires c =
    let graph = kept_fronts c.in_ok-edges.ensures refl in
    (joined graph, graph.few, c.if-out-n.false)

pub returns : goal.returns
unfolding component_names
returns c =
    let g = c.in_ok-edges.ensures in (
      buffers_not g (not (eqb (length c.args.out.now) c.args.n)) refl (ap not (eq-eqb _ _ c.if-out-n.false)),
      of-kept g.written (component_names c.args.n) c.name_components.ensures,
    )
