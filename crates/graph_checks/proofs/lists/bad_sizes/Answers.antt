-- The two searches.
use mathlib.Core.Path.{ap, ◌∙◌}
use mathlib.Core.List.{List}
use lib.Ieee.{Float}
use Rattle.refusals.specs.Request.{some_oversized}
use Rattle.refusals.proofs.Laws.Dropping.{dropping-none}
use Rattle.refusals.proofs.Laws.First.{told}
use borrow.Author.Rules.{rules}
use Rattle.graph_checks.proofs.lists.bad_sizes.Goals as goal

pub some_oversized-requires : goal.some_oversized-requires
some_oversized-requires c = search rules

pub returns-then-some_oversized : goal.returns-then-some_oversized
returns-then-some_oversized c = simp (told c.some_oversized.ensures c.if-some_oversized.true)

pub some_oversized-requires-2 : goal.some_oversized-requires-2
some_oversized-requires-2 c = search rules

pub returns : goal.returns
returns c =
    let betas = c.args.betas.now in
    simp (told c.some_oversized.ensures c.if-some_oversized.false) (c.some_oversized-2.ensures ∙ ap (λ (l : List Float). some_oversized l) (dropping-none betas))
