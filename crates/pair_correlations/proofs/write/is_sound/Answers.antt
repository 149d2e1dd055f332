-- The two tests are those of `soundly`: 1.0 / 0.0 is the infinity above zero.
use mathlib.Core.Path.{◌≡◌, refl}
use mathlib.Core.Bool.{false}
use lib.Ieee.{inf, binary64, div, of_bits, of_fields, odd}
use Rattle.step_tables.proofs.Laws.Constants.{zero_is}
use Rattle.pair_correlations.specs.Sound.{soundly}
use Rattle.pair_correlations.proofs.write.is_sound.Goals as goal

infinite_is : div binary64 (of_bits binary64 4607182418800017408) (of_bits binary64 0) ≡ inf false
unfolding div of_bits of_fields odd
infinite_is = refl

pub returns-then-z : goal.returns-then-z
unfolding soundly
returns-then-z c = rw (infinite_is, rw zero_is at c.if-z.true)

pub returns : goal.returns
unfolding soundly
returns c = rw (rw zero_is at c.if-z.false)
