-- The definition, word by word.
use mathlib.Core.Path.{refl}
use Rattle.export_shares.proofs.words_of.Goals as goal

pub returns : goal.returns
returns c = refl
