-- What is promised of every accepted estimate of a complete enumeration, of the stored doubles and with no tolerance.
use Rattle.std.specs.Prelude.{◌≡◌, refl, ℕ, T, Float}
use Rattle.std.proofs.Common.{sym, ap, ◌∙◌}
use Rattle.std.proofs.Math.Decide.{ℕ_discrete}
use Rattle.std.specs.Float.{binary64}
use Rattle.std.specs.Float.Ieee.{fits, mul, le}
use Rattle.rounding.specs.Powers.{Ordered}
use Rattle.rounding.proofs.Laws.Under.{under_le}
use Rattle.std.specs.declared.result.Result.TheVariants.{Ok}
use Rattle.estimate.specs.declared.answer.MeanSpread.{MeanSpread}
use Rattle.estimate.specs.declared.answer.Estimate.TheVariants.{Complete}
use Rattle.estimate.specs.Estimates.{+0·0, +1·0, number, mean_of, estimate_of, mean_in}
use Rattle.estimate.proofs.Laws.Cases.{too_few, enough}
use Rattle.estimate_complete.specs.Complete.{Power, variance_of, mean_spread_of, complete_of}
use Rattle.estimate_complete.proofs.Laws.Cases.{complete}
use Rattle.estimate_complete.proofs.Laws.Counted.{power_complete, good_count}
use Rattle.estimate_complete.proofs.Laws.Order.{zero_is, one-is}
use Rattle.estimate_complete.proofs.Laws.Root.{spread_least}
use Rattle.estimate_complete.proofs.Laws.Accepted as Accepted
use Rattle.estimate_complete.proofs.Laws.Accepted.{values, in_order, squares-least, squares-finite, fourths-finite, mean-least, mean-under, spread_below, ordered-order}
use Rattle.estimate_complete.proofs.Laws.Alone.{itself_over_one, no_spread}

module _ (count : ℕ) (squares fourths : Float) (e : MeanSpread) (accepted : complete_of count squares fourths ≡ Ok (Complete e)) where
  -- the count is a power of two up to 2 ^ 34
  pub counted : Power count
  counted = Accepted.counted count squares fourths e accepted

  -- the error is +0.0
  pub no_error : e.error ≡ +0·0
  no_error = ap (λ (x : MeanSpread). x.error) (values count squares fourths e accepted)

  -- the mean is the one that `estimate` answers
  pub same-mean : (old : Float) → mean_in (estimate_of count squares fourths) old ≡ e.mean
  same-mean old = go (ℕ_discrete count 1)
    where
      mean : e.mean ≡ mean_of (number count) squares
      mean = ap (λ (x : MeanSpread). x.mean) (values count squares fourths e accepted)

      go : Dec (count ≡ 1) → mean_in (estimate_of count squares fourths) old ≡ e.mean
      go (yes o) = rw (← too_few count squares fourths (good_count counted) (in_order count squares fourths e accepted) o) (sym mean)
      go (no o) = rw (← enough count squares fourths (good_count counted) (in_order count squares fourths e accepted) _ refl o) (sym mean)

  -- it lies in [0, 1]
  pub mean-within : T (le +0·0 e.mean) × T (le e.mean +1·0)
  mean-within =
      rw (zero_is, one-is, values count squares fourths e accepted)
      (mean-least count squares fourths e accepted, under_le (mean-under count squares fourths e accepted) tt)

  -- and so does the spread: it is no NaN, and not below zero
  pub spread_within : T (le +0·0 e.spread) × T (le e.spread +1·0)
  spread_within =
      rw (zero_is, one-is, values count squares fourths e accepted)
      (spread_least (variance_of (number count) squares fourths), spread_below count squares fourths e accepted)

-- Totals of a power of two of configurations that are in order are accepted.
pub ordered_complete : {count : ℕ} {squares fourths : Float} → Power count → Ordered binary64 fourths squares count
    → complete_of count squares fourths ≡ Ok (Complete (mean_spread_of (number count) squares fourths))
ordered_complete {count} {squares} {fourths} p o =
    sym (complete count squares fourths (power_complete p) (mean_spread_of (number count) squares fourths) refl (ordered-order count squares fourths o))

-- One configuration, whose square is s and whose fourth power is s times s, rounded: the mean is s itself, and there is no spread.
pub one-configuration : (s : Float) → T (fits binary64 s) → (e : MeanSpread) → complete_of 1 s (mul binary64 s s) ≡ Ok (Complete e)
    → e ≡ record { mean = s; error = +0·0; spread = +0·0 }
one-configuration s h e accepted =
    let f = mul binary64 s s in
    let l = squares-least 1 s f e accepted in
    let k = squares-finite 1 s f e accepted in
    values 1 s f e accepted
    ∙ rw (no_spread s h l k (fourths-finite 1 s f e accepted), itself_over_one s h l k, zero_is)
