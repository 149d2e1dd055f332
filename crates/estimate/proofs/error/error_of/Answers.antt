-- The definition in the code's own operations.
use mathlib.Core.Path.{ap, ◌∙◌}
use lib.Ieee.{Float, binary64, div}
use Rattle.sqrt.specs.Sqrt.{sqrt}
use Rattle.estimate.proofs.error.error_of.Goals as goal

pub returns : goal.returns
returns c =
    c.sqrt.ensures
    ∙ ap (λ (v : Float). sqrt binary64 (div binary64 v c.args.n)) c.at_least_zero.ensures
