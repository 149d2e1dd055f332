-- `Within a r`: a is no larger than r in size. Said by a split, a is up - down and r is up + down or more, so that its laws ask for no subtraction.
use Rattle.std.specs.Prelude.{◌≡◌}
use Rattle.fraction.proofs.Fraction.{ℚ}
use Rattle.accuracy.specs.Ring.{NonNeg}
use Rattle.accuracy.proofs.Laws.Ring.{◌⊹◌, ‐◌}

-- a is no larger than r in size.
pub record Within (a r : ℚ) : Type 0 where
  pub up : ℚ
  pub down : ℚ
  pub slack : ℚ
  pub is : a ≡ up ⊹ ‐ down
  pub most : r ≡ (up ⊹ down) ⊹ slack
  pub up_nn : NonNeg up
  pub down_nn : NonNeg down
  pub slack_nn : NonNeg slack
