-- Four words of splitmix64, one after another.
use Rattle.rng.specs.Xoshiro.{seeded}
use Rattle.rng.proofs.Rng.new.Goals as goal

pub returns : goal.returns
unfolding seeded
returns c = cc
