-- Computed facts that rule out wrong readings of the checks and the columns.
use Rattle.std.specs.Prelude.{◌≡◌, refl, [], ◌∷◌, Float}
use Rattle.std.specs.Float.{nan, binary64}
use Rattle.std.specs.Float.Ieee.{of_bits, of_int, le, lt, div, mul, sub}
use Rattle.sqrt.specs.Sqrt.{sqrt}
use Rattle.list_laws.specs.Search.{some}
use Rattle.list_laws.specs.Tabulate.{tabulate}
use Rattle.estimate.specs.Estimates.{+0·0, +1·0, number, estimate_of}
use Rattle.estimates.specs.Columns.{refusal_of, mean_column, error_column}

abbrev half : Float
half = of_bits binary64 0x3fe0_0000_0000_0000

-- 2 before 12 before 18; a bad count is refused where there is no place, and a good one is not
in-turn : (refusal_of 0 (+0·0 ∷ []) [] 0 0 ≡ 2) × (refusal_of 0 (+0·0 ∷ []) (+0·0 ∷ []) 0 1 ≡ 12) × (refusal_of 0 (+0·0 ∷ []) (+0·0 ∷ []) 1 2 ≡ 12)
    × (refusal_of 0 [] [] 0 0 ≡ 18) × (refusal_of 1 [] [] 0 0 ≡ 0)
unfolding some
in-turn = (refl, refl, refl, refl, refl)

-- every place is looked at, the last too
last-place : refusal_of 2 (+1·0 ∷ +0·0 ∷ []) (+1·0 ∷ +1·0 ∷ []) 2 2 ≡ 18
unfolding some of_bits of_int le
last-place = refl

-- sums of 1 and 1, and of 2 and 2, of two configurations
of_two : (mean_column 2 (+1·0 ∷ number 2 ∷ []) (+1·0 ∷ number 2 ∷ []) (nan ∷ nan ∷ []) ≡ half ∷ +1·0 ∷ [])
    × (error_column 2 (+1·0 ∷ number 2 ∷ []) (+1·0 ∷ number 2 ∷ []) (nan ∷ nan ∷ []) ≡ half ∷ +0·0 ∷ [])
unfolding tabulate estimate_of sqrt of_bits of_int le lt div mul sub
of_two = (refl, refl)

-- one configuration: the means are written, and the errors stay
of_one : (mean_column 1 (+1·0 ∷ []) (+1·0 ∷ []) (nan ∷ []) ≡ +1·0 ∷ []) × (error_column 1 (+1·0 ∷ []) (+1·0 ∷ []) (half ∷ []) ≡ half ∷ [])
unfolding tabulate estimate_of of_bits of_int le div
of_one = (refl, refl)
