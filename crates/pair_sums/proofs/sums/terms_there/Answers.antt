-- An iteration takes two terms of each sum.
use mathlib.Core.Path.{refl}
use Rattle.pair_sums.proofs.Way.{there_iteration}
use Rattle.pair_sums.proofs.sums.terms_there.Goals as goal

pub returns : goal.returns
returns c =
    let s = c.before.before.before.before.before.before.before.before.before.before.before in
    λ w wide inside g.
    there_iteration _ _ _ s.requires.1 s.requires.0.some w wide inside _ _ _ _ c.negated_if.ensures c.negated_if-2.ensures refl refl g
