-- What an estimate is, from the count of configurations and the sums of squares and of fourth powers: 01's number or values in each case.
-- Each operation is rounded once, in the order written.
use Rattle.std.specs.Prelude.{ℕ, ◌^◌, Bool, not, ◌&&◌, ◌||◌, cond, pos, ltb, eqb, Float}
use Rattle.std.specs.declared.result.Result.{Result}
use Rattle.std.specs.declared.result.Result.TheVariants.{Ok, Err}
use Rattle.std.specs.Float.{binary64}
use Rattle.std.specs.Float.Ieee.{lt, le, of_int, of_bits}
use Rattle.transfer_matrix.specs.Rounded.{ieee}
use Rattle.refusals.specs.declared.Refusal.{Refusal}
use Rattle.refusals.specs.declared.Refusal.TheVariants.{Sums}
use Rattle.sqrt.specs.Sqrt.{sqrt}
use Rattle.estimate.specs.declared.answer.MeanError.{MeanError}
use Rattle.estimate.specs.declared.answer.Estimate.{Estimate}
use Rattle.estimate.specs.declared.answer.Estimate.TheVariants.{Estimated, TooFew, Complete}
open ieee use {◌⊖◌, ◌⊗◌, ◌⊘◌}

infixl 60 ◌⊖◌
infixl 70 ◌⊗◌
infixl 70 ◌⊘◌
-- +0.0 and 1.0, by their bits
abbrev pub +0·0 : Float
+0·0 = of_bits binary64 0

abbrev pub +1·0 : Float
+1·0 = of_bits binary64 0x3ff0_0000_0000_0000

-- the count as a double, which is exact up to 2 ^ 53
abbrev pub number : ℕ → Float
number count = of_int binary64 (pos count)

abbrev pub mean_of : Float → Float → Float
mean_of n squares = squares ⊘ n

abbrev pub variance_of : Float → Float → Float → Float
variance_of n squares fourths = (fourths ⊘ n ⊖ mean_of n squares ⊗ mean_of n squares) ⊗ n ⊘ (n ⊖ +1·0)

-- what is not above zero, -0.0 too, counts as +0.0
abbrev pub at_least_zero : Float → Float
at_least_zero v = cond (lt +0·0 v) v +0·0

abbrev pub error_of : Float → Float → Float → Float
error_of n squares fourths = sqrt binary64 (at_least_zero (variance_of n squares fourths) ⊘ n)

-- the record of mean and standard error
abbrev pub mean_error_of : Float → Float → Float → MeanError
mean_error_of n squares fourths = record { mean = mean_of n squares; error = error_of n squares fourths }

-- the count is 0 or above 2 ^ 53
abbrev pub bad_count : ℕ → Bool
bad_count count = eqb count 0 || ltb (2 ^ 53) count

-- 0 ≤ fourth powers ≤ squares ≤ count; a NaN fails it
abbrev pub is_in_order : Float → Float → Float → Bool
is_in_order n squares fourths = le +0·0 fourths && le fourths squares && le squares n

-- check 18
abbrev pub refuses : ℕ → Float → Float → Bool
refuses count squares fourths = bad_count count || not (is_in_order (number count) squares fourths)

unfoldable pub estimate_of : ℕ → Float → Float → Result Estimate Refusal
estimate_of count squares fourths =
    let n = number count in
    cond (refuses count squares fourths) (Err Sums)
    (cond (eqb count 1) (Ok (TooFew (mean_of n squares)))
    (Ok (Estimated (mean_error_of n squares fourths))))

-- what an estimate leaves where a mean is to stand, where an error is, and where a spread is: what is there already where it has none
abbrev pub mean_in : Result Estimate Refusal → Float → Float
mean_in (Ok (Estimated e)) old = e.mean
mean_in (Ok (TooFew mean)) old = mean
mean_in (Ok (Complete e)) old = e.mean
mean_in (Err e) old = old

abbrev pub error_in : Result Estimate Refusal → Float → Float
error_in (Ok (Estimated e)) old = e.error
error_in (Ok (TooFew mean)) old = old
error_in (Ok (Complete e)) old = e.error
error_in (Err e) old = old

abbrev pub spread_in : Result Estimate Refusal → Float → Float
spread_in (Ok (Estimated e)) old = old
spread_in (Ok (TooFew mean)) old = old
spread_in (Ok (Complete e)) old = e.spread
spread_in (Err e) old = old
