-- The checks that stand before 24, 24, and the copy's.
use mathlib.Core.Path.{◌∙◌, subst}
use borrow.Author.Tests.{le-leb, lt-leb}
use Rattle.plan_layout.specs.Arrangements.{arrangement_of}
use Rattle.refusals.proofs.Laws.Dropping.{dropping-lists}
use Rattle.refusals.proofs.Laws.First.{told}
use Rattle.preview.specs.Previewed.{Costs}
use Rattle.preview.proofs.Laws.Cases.{no_vertices, misfit, no_edge, an_edge}
use Rattle.preview.proofs.preview.Goals as goal

pub returns-then-bad_vertices : goal.returns-then-bad_vertices
returns-then-bad_vertices c =
    let x = c.args in
    (no_vertices x.place (arrangement_of x.arrangement) x.n x.floor x.a.now x.b.now x.m.now x.us.now x.vs.now x.betas.now (told c.bad_vertices.ensures c.if-bad_vertices.true), tt)

pub returns-then-bad_lists : goal.returns-then-bad_lists
returns-then-bad_lists c =
    let x = c.args in
    let lists = c.bad_lists.ensures ∙ dropping-lists x.place x.n x.floor x.a.now x.b.now x.m.now x.us.now x.vs.now x.betas.now in (
      misfit x.place (arrangement_of x.arrangement) x.n x.floor x.a.now x.b.now x.m.now x.us.now x.vs.now x.betas.now
          (told c.bad_vertices.ensures c.if-bad_vertices.false) (told lists c.if-bad_lists.true),
      tt,
    )

pub returns-then-a-place : goal.returns-then-a-place
returns-then-a-place c =
    let x = c.args in
    let lists = c.bad_lists.ensures ∙ dropping-lists x.place x.n x.floor x.a.now x.b.now x.m.now x.us.now x.vs.now x.betas.now in (
      no_edge x.place (arrangement_of x.arrangement) x.n x.floor x.a.now x.b.now x.m.now x.us.now x.vs.now x.betas.now
          (told c.bad_vertices.ensures c.if-bad_vertices.false) (told lists c.if-bad_lists.false) (le-leb _ _ c.if-a-place.true),
      tt,
    )

pub returns : goal.returns
returns c =
    let x = c.args in
    let lists = c.bad_lists.ensures ∙ dropping-lists x.place x.n x.floor x.a.now x.b.now x.m.now x.us.now x.vs.now x.betas.now in
    subst (λ y. Costs y c.cost_dropping.result)
    (an_edge x.place (arrangement_of x.arrangement) x.n x.floor x.a.now x.b.now x.m.now x.us.now x.vs.now x.betas.now
    (told c.bad_vertices.ensures c.if-bad_vertices.false) (told lists c.if-bad_lists.false) (lt-leb _ _ c.if-a-place.false)) c.cost_dropping.ensures
