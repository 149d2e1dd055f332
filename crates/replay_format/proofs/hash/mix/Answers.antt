-- The product of the two words' difference bits and the prime.
use Rattle.replay_format.specs.Words.{mixed}
use Rattle.replay_format.proofs.hash.mix.Goals as goal

pub returns : goal.returns
unfolding mixed
returns c = c.wrapping_mul_u64.ensures
