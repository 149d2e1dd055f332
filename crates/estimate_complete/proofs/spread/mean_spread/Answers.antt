-- The definition in the code's own operations.
use Rattle.estimate_complete.proofs.spread.mean_spread.Goals as goal

pub returns : goal.returns
returns c = rw (c.sqrt.ensures, c.at_least_zero.ensures)
