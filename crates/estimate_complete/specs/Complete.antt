-- What an estimate is where the totals are a complete enumeration: 02's number or values in each case.
-- Each operation is rounded once, in the order written.
use Rattle.std.specs.Prelude.{◌≡◌, ℕ, suc, ◌^◌, ◌≤◌, Bool, not, ◌||◌, cond, eqb, Float}
use Rattle.std.specs.declared.result.Result.{Result}
use Rattle.std.specs.declared.result.Result.TheVariants.{Ok, Err}
use Rattle.std.specs.Float.{binary64}
use Rattle.limits.specs.Limits.{most_counted}
use Rattle.list_laws.specs.Search.{some}
use Rattle.transfer_matrix.specs.Rounded.{ieee}
use Rattle.refusals.specs.declared.Refusal.{Refusal}
use Rattle.refusals.specs.declared.Refusal.TheVariants.{Sums}
use Rattle.sqrt.specs.Sqrt.{sqrt}
use Rattle.estimate.specs.declared.answer.MeanSpread.{MeanSpread}
use Rattle.estimate.specs.declared.answer.Estimate.{Estimate}
use Rattle.estimate.specs.declared.answer.Estimate.TheVariants.{Complete}
use Rattle.estimate.specs.Estimates.{+0·0, number, mean_of, at_least_zero, is_in_order}
open ieee use {◌⊖◌, ◌⊗◌, ◌⊘◌}

infixl 60 ◌⊖◌
infixl 70 ◌⊗◌
infixl 70 ◌⊘◌
-- the count is a power of two up to 2 ^ 34: 34 free edges are the most that are enumerated
abbrev pub is_complete : ℕ → Bool
is_complete count = some (λ k. eqb count (2 ^ k)) (suc most_counted)

-- the same with the free edges named
pub record Power (count : ℕ) : Type 0 where
  pub free : ℕ
  pub few : free ≤ most_counted
  pub is : count ≡ 2 ^ free

-- the variance over configurations: all of them are there, so it is over the count
abbrev pub variance_of : Float → Float → Float → Float
variance_of n squares fourths = fourths ⊘ n ⊖ mean_of n squares ⊗ mean_of n squares

-- the square root of the larger of +0.0 and it, +0.0 on a tie too
abbrev pub spread_of : Float → Float → Float → Float
spread_of n squares fourths = sqrt binary64 (at_least_zero (variance_of n squares fourths))

-- the record of mean, error and spread: nothing was sampled, so the error is +0.0
abbrev pub mean_spread_of : Float → Float → Float → MeanSpread
mean_spread_of n squares fourths = record { mean = mean_of n squares; error = +0·0; spread = spread_of n squares fourths }

-- check 18 of a complete enumeration
abbrev pub refuses_complete : ℕ → Float → Float → Bool
refuses_complete count squares fourths = not (is_complete count) || not (is_in_order (number count) squares fourths)

unfoldable pub complete_of : ℕ → Float → Float → Result Estimate Refusal
complete_of count squares fourths =
    cond (refuses_complete count squares fourths) (Err Sums) (Ok (Complete (mean_spread_of (number count) squares fourths)))
