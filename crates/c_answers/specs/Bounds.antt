-- What an error bound is as a number, and what it leaves in references.
use Rattle.std.specs.Prelude.{◌≡◌, Bool, ℕ, Float}
use Rattle.error_bound.specs.Bound.{ErrorBound}
use Rattle.error_bound.specs.Cases.{number_of, known_in, bound_in}

pub record Tells (a : ErrorBound) (r : ℕ) (known known' : Bool) (bound bound' : Float) : Type 0 where
  pub number : r ≡ number_of a
  pub knows : known' ≡ known_in a known
  pub bounds : bound' ≡ bound_in a bound
