-- The definition in the code's own operations.
use Rattle.estimate.proofs.error.mean_error.Goals as goal

pub returns : goal.returns
returns c = rw c.error_of.ensures
