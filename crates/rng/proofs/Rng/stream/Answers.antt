-- The second word of splitmix64, xor the index, is the seed.
use Rattle.rng.specs.Xoshiro.{streamed}
use Rattle.std.proofs.Common.{rules}
use Rattle.rng.proofs.Rng.stream.Goals as goal

pub wrapping_mul_u64-requires : goal.wrapping_mul_u64-requires
wrapping_mul_u64-requires c = search rules

pub splitmix-first-requires : goal.splitmix-first-requires
splitmix-first-requires c = search rules

pub splitmix-second-requires : goal.splitmix-second-requires
splitmix-second-requires c = search rules

pub new-requires : goal.new-requires
new-requires c = search rules

pub returns : goal.returns
unfolding streamed
returns c = cc
