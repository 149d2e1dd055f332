-- Each line of the code is one of the definition.
use Rattle.rng.proofs.Rng.next_u64.Goals as goal

pub returns : goal.returns
returns c = (cc, cc)
