-- `Apart x y r`: x and y differ by no more than r; and what so many roundings leave of that.
use Rattle.fraction.proofs.Fraction.{ℚ}
use Rattle.accuracy.proofs.Laws.Ring.{◌⊹◌, ◌≼◌}

-- x and y differ by no more than r.
pub record Apart (x y r : ℚ) : Type 0 where
  pub below : x ≼ y ⊹ r
  pub above : y ≼ x ⊹ r
