-- What an accepted estimate has passed, and its values.
use Rattle.std.specs.Prelude.{◌≡◌, refl, Bool, true, false, not, ◌&&◌, cond, ℕ, T, Float}
use Rattle.std.proofs.Common.{sym, subst, arith}
use Rattle.std.specs.Float.Ieee.{binary64, mul, div, le, of_int}
use Rattle.std.specs.Float.Ieee.Bits.{is_true}
use Rattle.std.specs.Float.Ieee.Fits.{and_i, and_l, and_r}
use Rattle.std.specs.Float.Ieee.Positive.{num, den, den_pos, positive, positive-finite, through}
use Rattle.std.specs.Float.Ieee.Scale.{finite}
use Rattle.std.proofs.lemmas.Bool.{not-false}
use Rattle.list_laws.proofs.Laws.Search.{or-false}
use Rattle.rounding.specs.Powers.{Ordered}
use Rattle.rounding.specs.Under.{nought, unit}
use Rattle.rounding.proofs.Laws.Powers.{square-under}
use Rattle.rounding.proofs.Laws.Sign.{square-not_minus}
use Rattle.rounding.proofs.Laws.Under.{div_under, positive-not_minus}
use Rattle.rounding.specs.Laws.Under.{Within, Under}
use Rattle.rounding.proofs.Laws.Whole.{whole-positive}
use Rattle.std.specs.declared.result.Result.TheVariants.{Ok, Err}
use Rattle.refusals.specs.declared.Refusal.TheVariants.{Sums}
use Rattle.estimate.specs.declared.answer.MeanSpread.{MeanSpread}
use Rattle.estimate.specs.declared.answer.Estimate.TheVariants.{Complete}
use Rattle.estimate.specs.Estimates.{+0·0, number, mean_of, is_in_order}
use Rattle.estimate_complete.specs.Complete.{is_complete, Power, refuses_complete, spread_of, mean_spread_of, complete_of}
use Rattle.estimate_complete.proofs.Laws.Counted.{complete_power, few-enough, some-counted}
use Rattle.estimate_complete.proofs.Laws.Order.{zero_is, ordered-within, ascending}
use Rattle.estimate_complete.proofs.Laws.Mean.{mean-sign}
use Rattle.estimate_complete.proofs.Laws.Most.{spread_most}

told : (b : Bool) (r e : MeanSpread) → cond b (Err Sums) (Ok (Complete r)) ≡ Ok (Complete e) → (b ≡ false) × (e ≡ r)
told true r e h = absurd (let z : ◌≡◌ {A = ℕ} 0 1 = cc in omega arith)
told false r e h = (refl, cc)

module _ (count : ℕ) (squares fourths : Float) (e : MeanSpread) (accepted : complete_of count squares fourths ≡ Ok (Complete e)) where
  passed : (refuses_complete count squares fourths ≡ false) × (e ≡ mean_spread_of (number count) squares fourths)
  unfolding complete_of
  passed = told (refuses_complete count squares fourths) (mean_spread_of (number count) squares fourths) e accepted

  pub values : e ≡ mean_spread_of (number count) squares fourths
  values = passed.1

  parts : (not (is_complete count) ≡ false) × (not (is_in_order (number count) squares fourths) ≡ false)
  parts = or-false (not (is_complete count)) (not (is_in_order (number count) squares fourths)) passed.0

  pub counted : Power count
  counted = complete_power count (not-false _ parts.0)

  pub in_order : is_in_order (number count) squares fourths ≡ true
  in_order = not-false _ parts.1

  -- 0 ≤ fourth powers ≤ squares ≤ count
  ordered : T (is_in_order (number count) squares fourths)
  ordered = subst T (sym in_order) tt

  pub fourths-least : T (le nought fourths)
  fourths-least = rw zero_is at (and_l (le +0·0 fourths) (le fourths squares) (and_l (le +0·0 fourths && le fourths squares) (le squares (number count)) ordered))

  fourths-below : T (le fourths squares)
  fourths-below = and_r (le +0·0 fourths) (le fourths squares) (and_l (le +0·0 fourths && le fourths squares) (le squares (number count)) ordered)

  squares-below : T (le squares (number count))
  squares-below = and_r (le +0·0 fourths && le fourths squares) (le squares (number count)) ordered

  pub squares-least : T (le nought squares)
  squares-least = ascending fourths squares fourths-least fourths-below

  pub positive-count : T (positive (number count))
  unfolding of_int
  positive-count = whole-positive binary64 count (some-counted counted) (few-enough counted)

  squares-within : Within squares (number count)
  squares-within = ordered-within squares (number count) squares-least squares-below (positive-finite (number count) positive-count)

  pub squares-finite : T (finite squares)
  squares-finite = squares-within.is_finite

  fourths-within : Within fourths squares
  fourths-within = ordered-within fourths squares fourths-least fourths-below squares-finite

  pub fourths-finite : T (finite fourths)
  fourths-finite = fourths-within.is_finite

  -- squares and fourth powers are no larger than the count, so their quotients are no larger than 1
  within_count : {x : Float} → Within x (number count) → Under (div binary64 x (number count)) unit
  within_count w =
      div_under binary64
      (record { sign = positive-not_minus (number count) positive-count; size = λ (f : T (finite (number count))). w })
      positive-count

  pub mean-under : Under (mean_of (number count) squares) unit
  mean-under = within_count squares-within

  fourths-under : Under (div binary64 fourths (number count)) unit
  fourths-under =
      within_count (record {
        is_finite = fourths-finite;
        at_most =
            through (num fourths) (num squares) (num (number count)) (den fourths) (den squares) (den (number count)) (den_pos squares)
            fourths-within.at_most squares-within.at_most;
      })

  -- the spread is at most 1
  pub spread_below : T (le (spread_of (number count) squares fourths) unit)
  spread_below =
      spread_most (div binary64 fourths (number count)) (mul binary64 (mean_of (number count) squares) (mean_of (number count) squares)) fourths-under
      ((square-under binary64 mean-under).size tt).is_finite (square-not_minus binary64 (mean_of (number count) squares))

  pub mean-least : T (le nought (mean_of (number count) squares))
  mean-least = mean-sign squares (number count) squares-least positive-count (mean-under.size tt).is_finite

-- sums that are in order by the comparisons pass the test
pub ordered-order : (count : ℕ) (squares fourths : Float) → Ordered binary64 fourths squares count → is_in_order (number count) squares fourths ≡ true
unfolding of_int
ordered-order count squares fourths o =
    is_true (is_in_order (number count) squares fourths)
    (and_i (le +0·0 fourths && le fourths squares) (le squares (number count))
    (and_i (le +0·0 fourths) (le fourths squares) (rw zero_is o.nonnegative) o.ascending) o.counted)
