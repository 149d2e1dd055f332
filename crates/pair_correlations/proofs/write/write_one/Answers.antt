-- If Z is sound, the quotient is written.
use mathlib.Core.Path.{sym, ◌∙◌}
use borrow.Author.Tests.{not-true, not-false}
use Rattle.pair_correlations.proofs.Two.{wrote_one, wrote_not}
use Rattle.pair_correlations.proofs.write.write_one.Goals as goal

pub returns-then-not-is_sound : goal.returns-then-not-is_sound
returns-then-not-is_sound c =
    let sums = c.half_sums-sums in
    wrote_not _ _ _ _ _ sums.result sums.ensures (sym c.is_sound.ensures ∙ not-true _ c.if-not-is_sound.true-raw)

pub returns : goal.returns
returns c =
    let sums = c.half_sums-sums in
    wrote_one _ _ _ _ _ sums.result sums.ensures (sym c.is_sound.ensures ∙ not-false _ c.if-not-is_sound.false-raw)
