-- There is one NaN.
use Rattle.std.proofs.Common.{◌≡◌, T, refl}
use lib.Ieee.{Float, nan, inf, fin, is_nan}

pub is-nan : (x : Float) → T (is_nan x) → nan ≡ x
unfolding is_nan
is-nan nan t = refl
is-nan (inf s) t = absurd t
is-nan (fin s m e) t = absurd t
