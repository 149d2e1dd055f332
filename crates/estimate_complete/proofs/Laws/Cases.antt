-- An estimate by its cases, in the order of the tests.
use Rattle.std.specs.Prelude.{◌≡◌, ℕ, true, false, Float}
use Rattle.std.specs.declared.result.Result.TheVariants.{Ok, Err}
use Rattle.refusals.specs.declared.Refusal.TheVariants.{Sums}
use Rattle.estimate.specs.declared.answer.MeanSpread.{MeanSpread}
use Rattle.estimate.specs.declared.answer.Estimate.TheVariants.{Complete}
use Rattle.estimate.specs.Estimates.{number, is_in_order}
use Rattle.estimate_complete.specs.Complete.{is_complete, mean_spread_of, complete_of}

module _ (count : ℕ) (squares fourths : Float) where
  pub refused-count : is_complete count ≡ false → Err Sums ≡ complete_of count squares fourths
  unfolding complete_of
  refused-count h = rw h

  module _ (h : is_complete count ≡ true) where
    pub refused-order : is_in_order (number count) squares fourths ≡ false → Err Sums ≡ complete_of count squares fourths
    unfolding complete_of
    refused-order e = rw (h, e)

    pub complete : (r : MeanSpread) → r ≡ mean_spread_of (number count) squares fourths → is_in_order (number count) squares fourths ≡ true
        → Ok (Complete r) ≡ complete_of count squares fourths
    unfolding complete_of
    complete r g e = rw (g, h, e)
