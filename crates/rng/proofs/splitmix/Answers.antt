-- Each line of the code is one of the definition.
use Rattle.rng.specs.SplitMix.{advance, mix}
use Rattle.rng.proofs.splitmix.Goals as goal

pub returns : goal.returns
unfolding advance mix
returns c = (cc, cc)
