-- What the tests z > 0 and z ≤ m tell of a float.
use Rattle.std.specs.Prelude.{true, false, T, Float}
use Rattle.std.specs.Float.{nan, inf, fin}
use Rattle.std.specs.Float.Ieee.{lt, le}
use Rattle.std.specs.Float.Ieee.Scale.{finite}
use Rattle.std.specs.Float.Ieee.Positive.{positive}
use Rattle.rounding.specs.Under.{nought}
use Rattle.rounding.proofs.Laws.Under.{positive_of}

-- by the tests z > 0 and z ≤ m, for a finite m
pub positive_of_tests : (z m : Float) → T (finite m) → T (lt nought z) → T (le z m) → T (positive z)
unfolding le
positive_of_tests z m k h l = positive_of z h (below z m k l)
  where
    below : (z m : Float) → T (finite m) → T (le z m) → T (lt z (inf false))
    below nan m k l = absurd l
    below (inf true) m k l = tt
    below (inf false) nan k l = absurd k
    below (inf false) (inf t) k l = absurd k
    below (inf false) (fin t n d) k l = absurd l
    below (fin s n d) m k l = tt
