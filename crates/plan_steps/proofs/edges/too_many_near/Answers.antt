-- The counts settle it, or the rows do.
use mathlib.Core.Path.{sym}
use borrow.Author.Rules.{rules}
use Rattle.plan_steps.proofs.Entering.{was_false}
use Rattle.plan_steps.proofs.edges.too_many_near.Goals as goal

pub is_crowded-requires : goal.is_crowded-requires
is_crowded-requires c = search rules

pub returns-then-not-is_crowded : goal.returns-then-not-is_crowded
returns-then-not-is_crowded c = sym (c.is_crowded.ensures (was_false _ c.if-not-is_crowded.true-raw))

pub enter_all-requires : goal.enter_all-requires
enter_all-requires c = search rules
