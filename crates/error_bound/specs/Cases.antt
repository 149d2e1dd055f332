-- What an answered bound is as a number, 0 for accepted, and what it leaves in references that held `old`.
use Rattle.std.specs.Prelude.{Bool, true, false, ℕ, Float}
use Rattle.std.specs.declared.result.Result.TheVariants.{Ok, Err}
use Rattle.std.specs.declared.option.Option.TheVariants.{Some, None}
use Rattle.error_bound.specs.Bound.{ErrorBound}

abbrev pub number_of : ErrorBound → ℕ
number_of (Ok (Some e)) = 0
number_of (Ok None) = 0
number_of (Err k) = k

-- whether a bound is known
abbrev pub known_in : ErrorBound → Bool → Bool
known_in (Ok (Some e)) old = true
known_in (Ok None) old = false
known_in (Err k) old = old

-- the bound, where one is
abbrev pub bound_in : ErrorBound → Float → Float
bound_in (Ok (Some e)) old = e
bound_in (Ok None) old = old
bound_in (Err k) old = old
