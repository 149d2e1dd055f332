-- Computed facts that rule out wrong readings of the checks and the columns.
use Rattle.std.specs.Prelude.{◌≡◌, refl, [], ◌∷◌, ◌^◌, Float}
use Rattle.std.specs.Float.{binary64}
use Rattle.std.specs.Float.Ieee.{of_bits, of_int, le, lt, div, mul, sub}
use Rattle.sqrt.specs.Sqrt.{sqrt}
use Rattle.list_laws.specs.Search.{some}
use Rattle.list_laws.specs.Tabulate.{tabulate}
use Rattle.estimate.specs.Estimates.{+0·0, +1·0, number}
use Rattle.estimates_complete.specs.Columns.{refusal_of, mean_column, error_column, spread_column}

abbrev half : Float
half = of_bits binary64 0x3fe0_0000_0000_0000

-- 2 before 12 before 18; a bad count is refused where there is no place, and a good one is not
in-turn : (refusal_of 3 (+0·0 ∷ []) [] 0 0 0 ≡ 2) × (refusal_of 3 (+0·0 ∷ []) (+0·0 ∷ []) 1 1 0 ≡ 12) × (refusal_of 3 (+0·0 ∷ []) (+0·0 ∷ []) 1 1 2 ≡ 12)
    × (refusal_of 3 [] [] 0 0 0 ≡ 18) × (refusal_of 1 [] [] 0 0 0 ≡ 0) × (refusal_of (2 ^ 35) [] [] 0 0 0 ≡ 18)
unfolding some
in-turn = (refl, refl, refl, refl, refl, refl)

-- every place is looked at, the last too
last-place : refusal_of 2 (+1·0 ∷ +0·0 ∷ []) (+1·0 ∷ +1·0 ∷ []) 2 2 2 ≡ 18
unfolding some of_bits of_int le
last-place = refl

-- sums of 1 and 1, and of 2 and 2, of two configurations
of_two : (mean_column (number 2) (+1·0 ∷ number 2 ∷ []) ≡ half ∷ +1·0 ∷ []) × (error_column (+1·0 ∷ number 2 ∷ []) ≡ +0·0 ∷ +0·0 ∷ [])
    × (spread_column (number 2) (+1·0 ∷ number 2 ∷ []) (+1·0 ∷ number 2 ∷ []) ≡ half ∷ +0·0 ∷ [])
unfolding tabulate sqrt of_bits of_int le lt div mul sub
of_two = (refl, refl, refl)
