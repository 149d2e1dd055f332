-- The larger one, twice.
use Rattle.transfer_matrix.specs.Job.{window_of}
use Rattle.kept_edges.proofs.reach.window_of.Goals as goal

pub returns : goal.returns
unfolding window_of
returns c = cc
