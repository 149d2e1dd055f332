-- An estimate by its cases, in the order of the tests.
use Rattle.std.specs.Prelude.{◌≡◌, ℕ, true, false, Float}
use Rattle.std.specs.declared.result.Result.TheVariants.{Ok, Err}
use borrow.Author.Tests.{eq-eqb, ne_eqb}
use Rattle.refusals.specs.declared.Refusal.TheVariants.{Sums}
use Rattle.estimate.specs.declared.answer.MeanError.{MeanError}
use Rattle.estimate.specs.declared.answer.Estimate.TheVariants.{Estimated, TooFew}
use Rattle.estimate.specs.Estimates.{number, mean_of, mean_error_of, bad_count, is_in_order, estimate_of}

module _ (count : ℕ) (squares fourths : Float) where
  pub refused-count : bad_count count ≡ true → Err Sums ≡ estimate_of count squares fourths
  unfolding estimate_of
  refused-count h = rw h

  module _ (h : bad_count count ≡ false) where
    pub refused-order : is_in_order (number count) squares fourths ≡ false → Err Sums ≡ estimate_of count squares fourths
    unfolding estimate_of
    refused-order e = rw (h, e)

    module _ (e : is_in_order (number count) squares fourths ≡ true) where
      pub too_few : count ≡ 1 → Ok (TooFew (mean_of (number count) squares)) ≡ estimate_of count squares fourths
      unfolding estimate_of
      too_few o = rw (h, e, eq-eqb count 1 o)

      pub enough : (r : MeanError) → r ≡ mean_error_of (number count) squares fourths → (count ≡ 1 → ⊥)
          → Ok (Estimated r) ≡ estimate_of count squares fourths
      unfolding estimate_of
      enough r g o = rw (g, h, e, ne_eqb count 1 o)
