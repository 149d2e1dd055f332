-- What the answer that was told says.
use Rattle.export_estimates.proofs.complete.copperhook_estimate_complete.Goals as goal

pub returns : goal.returns
returns c = let t = rw c.estimate_complete-answer.ensures at c.tell_complete.ensures in record { value = t.number; mean_after = t.means; error_after = t.errors; spread_after = t.spreads }
