-- What an estimate is as a number, 0 for accepted, and what it leaves in references that held `old`.
use Rattle.std.specs.Prelude.{◌≡◌, Bool, true, false, ℕ, Float}
use Rattle.std.specs.declared.result.Result.{Result}
use Rattle.std.specs.declared.result.Result.TheVariants.{Ok, Err}
use Rattle.refusals.specs.declared.Refusal.{Refusal}
use Rattle.refusals.specs.Numbers.{refused}
use Rattle.estimate.specs.declared.answer.Estimate.{Estimate}
use Rattle.estimate.specs.declared.answer.Estimate.TheVariants.{Estimated, TooFew, Complete}
use Rattle.estimate.specs.Estimates.{mean_in, error_in, spread_in}

abbrev pub enough_of : Result Estimate Refusal → Bool → Bool
enough_of (Ok (Estimated e)) old = true
enough_of (Ok (TooFew mean)) old = false
enough_of (Ok (Complete e)) old = true
enough_of (Err e) old = old

pub record Tells (a : Result Estimate Refusal) (r : ℕ) (enough enough' : Bool) (mean mean' error error' : Float) : Type 0 where
  pub number : r ≡ refused a
  pub enoughs : enough' ≡ enough_of a enough
  pub means : mean' ≡ mean_in a mean
  pub errors : error' ≡ error_in a error

-- The same where a spread is asked for.
pub record TellsComplete (a : Result Estimate Refusal) (r : ℕ) (mean mean' error error' spread spread' : Float) : Type 0 where
  pub number : r ≡ refused a
  pub means : mean' ≡ mean_in a mean
  pub errors : error' ≡ error_in a error
  pub spreads : spread' ≡ spread_in a spread
