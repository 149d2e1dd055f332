-- Two terms of each sum, both of the one entry.
use mathlib.Core.Path.{refl}
use Rattle.step_tables.proofs.Laws.Constants.{zero_is}
use Rattle.pair_sums.proofs.Way.{one-done}
use Rattle.pair_sums.proofs.sums.sums_of_one.Goals as goal

pub returns : goal.returns
returns c = λ w one. one-done _ _ w _ _ _ one refl refl (rw zero_is) (rw zero_is)
