-- The bits, if the graph is accepted and the buffer fits.
use Rattle.std.proofs.lemmas.Result.{err_from_is_err_and}
use Rattle.forest.specs.FreeEdges.{bits_of}
use Rattle.forest.proofs.Laws.FreeEdges.{forest-bits}
use Rattle.graph.proofs.Building.{buffers-before, buffers_here, buffers_not, early-fits, early-part, kept_fronts, joined, of-kept, forest-kept}
use Rattle.refusals.proofs.Laws.Answers.{number-not_zero, left_alone}
use borrow.Author.Tests.{eq-eqb, ne_eqb}
use native.Mathlib.Omega.{arith}
use lib.ListN.{length}
use lib.Dec.{eqb}
use mathlib.Core.Bool.{not}
use Rattle.refusals.specs.Edges.{kept}
use mathlib.Core.Path.{refl, sym, ap, ◌∙◌}
use Rattle.graph.proofs.graph.spanning_forest.Goals as goal

pub returns-in_err-edges : goal.returns-in_err-edges
returns-in_err-edges c =
    let p = err_from_is_err_and c.from_residual.result c.from_residual.ensures.1 in
    rw (p.1, p.2) (buffers-before c.in_err-edges.ensures (not (eqb (length c.args.bits.now) (length (kept c.args.a.now c.args.b.now c.args.m.now)))) (number-not_zero _), left_alone _ _ _ (number-not_zero _), tt)

pub returns-then-bits-edges : goal.returns-then-bits-edges
returns-then-bits-edges c =
    let g = c.in_ok-edges.ensures in
    (buffers_here g (not (eqb (length c.args.bits.now) (length (kept c.args.a.now c.args.b.now c.args.m.now)))) refl (ap not (ne_eqb _ _ (λ e. c.if-bits-edges.true (e ∙ sym g.written.edges)))), refl, tt)

pub number_free_edges-requires : goal.number_free_edges-requires
number_free_edges-requires c =
    let g = c.in_ok-edges.ensures in
    let graph = kept_fronts g refl in
    (joined graph, graph.few, c.if-bits-edges.false ∙ early-part g.written)

pub returns : goal.returns
returns c =
    let g = c.in_ok-edges.ensures in
    let w = g.written in
    let is = c.number_free_edges.ensures.1 in
    let graph = kept_fronts g refl in (
      buffers_not g (not (eqb (length c.args.bits.now) (length (kept c.args.a.now c.args.b.now c.args.m.now)))) refl (ap not (eq-eqb _ _ (c.if-bits-edges.false ∙ w.edges))),
      of-kept w bits_of is,
      forest-kept w (rw is (forest-bits (joined graph) (omega (arith, early-fits w, early-part w)))),
    )
