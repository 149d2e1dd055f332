-- The double of the word that stands there.
use mathlib.Core.Path.{ap, ◌∙◌}
use lib.Ieee.{binary64, of_bits}
use Rattle.run_record.proofs.sums.double_at.Goals as goal

pub returns : goal.returns
returns c = c.double_of.ensures ∙ ap (of_bits binary64) c.word_at.ensures
