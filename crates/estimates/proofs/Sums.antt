-- What a search through the places says of check 18.
use mathlib.Core.Path.{◌≡◌}
use mathlib.Core.Bool.{Bool, true, false, not}
use mathlib.Core.List.{List}
use Prim.Native.Nat.{ℕ}
use lib.Ieee.{Float}
use lib.ListN.{length}
use Rattle.list_laws.specs.Search.{some}
use Rattle.estimate.specs.Estimates.{number, bad_count, is_in_order}
use Rattle.estimates.specs.Columns.{at, bad_sums}

module _ (count : ℕ) (squares fourths : List Float) where
  -- place i is out of order
  abbrev pub disordered : ℕ → Bool
  disordered i = not (is_in_order (number count) (at squares i) (at fourths i))

  pub of-count : bad_count count ≡ true → true ≡ bad_sums count squares fourths
  of-count h = rw h

  pub of_places : bad_count count ≡ false → (r : Bool) → r ≡ some disordered (length squares) → r ≡ bad_sums count squares fourths
  of_places h r e = rw h e
