-- What the plan counts.
use mathlib.Core.Path.{◌∙◌}
use Rattle.error_bound.proofs.Laws.Near.{most-counted}
use borrow.Author.Rules.{rules}
use Rattle.error_bound.proofs.near.plan_and_count.Goals as goal

pub plan_edges-requires : goal.plan_edges-requires
plan_edges-requires c = search rules

pub most_planned-requires : goal.most_planned-requires
most_planned-requires c = search rules

pub returns : goal.returns
returns c = c.most_planned.ensures ∙ most-counted _ _ _ _ _ c.plan_edges.ensures
