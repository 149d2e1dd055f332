-- What the answer that was told says.
use borrow.Author.Rules.{rules}
use Rattle.export_estimates.proofs.means.copperhook_estimate.Goals as goal

pub estimate-answer-requires : goal.estimate-answer-requires
estimate-answer-requires c = search rules

pub tell_estimate-requires : goal.tell_estimate-requires
tell_estimate-requires c = search rules

pub returns : goal.returns
returns c = let t = rw c.estimate-answer.ensures at c.tell_estimate.ensures in record { value = t.number; enough_after = t.enoughs; mean_after = t.means; error_after = t.errors }
