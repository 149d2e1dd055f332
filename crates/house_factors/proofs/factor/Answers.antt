-- The entry at that place.
use mathlib.Core.Path.{ap, ◌∙◌}
use mathlib.Core.List.{List}
use lib.Ieee.{Float, nan}
use lib.ListN.{get_or}
use Rattle.house_factors.proofs.factor.Goals as goal

pub returns : goal.returns
returns c =
    let p = c.entry_place in
    ap (λ (l : List Float). get_or l p.result nan) c.requires.0 ∙ p.ensures.1
