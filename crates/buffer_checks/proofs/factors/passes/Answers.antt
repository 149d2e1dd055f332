-- One over zero is the infinity that the test names.
use lib.Ieee.{of_bits, div}
use mathlib.Core.Path.{refl}
use Rattle.buffer_checks.proofs.factors.passes.Goals as goal

pub returns : goal.returns
unfolding div of_bits
returns c = refl
