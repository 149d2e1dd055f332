-- No vertex has too many near edges, so every edge was entered.
use mathlib.Core.Path.{◌∙◌}
use borrow.Author.Rules.{rules}
use Rattle.plan_steps.proofs.edges.plan_edges.Goals as goal

pub enter_all-requires : goal.enter_all-requires
enter_all-requires c = search rules

pub returns : goal.returns
returns c =
    let entered = c.enter_all.ensures in
    entered.1 (entered.0 ∙ c.requires.2)
