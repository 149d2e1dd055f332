use mathlib.Core.Path.{refl}
use Rattle.step_tables.proofs.Laws.Constants.{zero_is}
use Rattle.job_run.proofs.Lists.{all-zeros}
use borrow.Author.Rules.{rules}
use Rattle.job_run.proofs.planned.clear.Goals as goal

pub fill-requires : goal.fill-requires
fill-requires c = search rules

pub returns : goal.returns
returns c = all-zeros c.args.list.now _ _ _ zero_is refl c.fill.ensures
