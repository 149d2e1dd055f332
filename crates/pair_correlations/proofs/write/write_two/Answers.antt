-- One pair alone, or two: if both Z are sound, the quotients are written.
use mathlib.Core.Path.{sym, ◌∙◌}
use mathlib.Core.Logic.{inl, inr}
use lib.ListN.{length-set}
use borrow.Author.Tests.{not-true, not-false}
use Rattle.pair_correlations.proofs.Two.{wrote_none, wrote_both, wrote_alone}
use Rattle.pair_correlations.proofs.write.write_two.Goals as goal

pub returns-then-q-p : goal.returns-then-q-p
returns-then-q-p c =
    let e = c.if-q-p.true in
    wrote_alone _ _ _ _ _ _ _ _ _ e (c.requires.4 e) c.write_one.ensures

pub returns-then-not-is_sound : goal.returns-then-not-is_sound
returns-then-not-is_sound c =
    let sums = c.half_sums_of_two-sums in
    wrote_none _ _ _ _ _ _ _ sums.result.first sums.result.second sums.ensures.0 sums.ensures.1
    (inl (sym c.is_sound.ensures ∙ not-true _ c.if-not-is_sound.true-raw))

pub returns-then-not-is_sound-2 : goal.returns-then-not-is_sound-2
returns-then-not-is_sound-2 c =
    let sums = c.half_sums_of_two-sums in
    wrote_none _ _ _ _ _ _ _ sums.result.first sums.result.second sums.ensures.0 sums.ensures.1
    (inr (sym c.is_sound-2.ensures ∙ not-true _ c.if-not-is_sound-2.true-raw))

pub bounds-results-q : goal.bounds-results-q
bounds-results-q c = rw length-set c.requires.3

pub returns : goal.returns
returns c =
    let sums = c.half_sums_of_two-sums in
    wrote_both _ _ _ _ _ _ _ sums.result.first sums.result.second sums.ensures.0 sums.ensures.1
    (sym c.is_sound.ensures ∙ not-false _ c.if-not-is_sound.false-raw) (sym c.is_sound-2.ensures ∙ not-false _ c.if-not-is_sound-2.false-raw)
