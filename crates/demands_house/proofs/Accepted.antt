-- What the demands say of accepted house calls, of the stored results and totals and with no tolerance: what they say of the calls that lend the table's
-- factors, word for word. Each is stated in full, so that a reader of house calls needs no other file but for the words.
use Rattle.std.specs.Prelude.{◌≡◌, refl, true, false, List, [], ℕ, ◌+◌, ◌-◌, ◌*◌, ◌/◌, ◌%◌, ◌^◌, ◌≤◌, ◌<◌, Float, length, get_or}
use Rattle.std.specs.declared.result.Result.TheVariants.{Ok}
use Rattle.std.specs.declared.option.Option.TheVariants.{Some}
use Rattle.std.proofs.Common.{arith}
use Rattle.std.specs.Float.{nan, binary64}
use Rattle.limits.specs.declared.Caller.{Caller}
use Rattle.rounding.specs.Powers.{Ordered}
use Rattle.fraction.proofs.Fraction.{ℚ, invℚ}
use Rattle.fraction.proofs.Value.{value}
use Rattle.transfer_matrix.specs.Job.{Job}
use Rattle.transfer_matrix.specs.Rounded.{ieee}
use Rattle.transfer_matrix.specs.Sweep as S
use Rattle.transfer_matrix.specs.Totals.{square, fourth, chunk_size, chunk_count, enumerated, sampled, sampled_count}
use Rattle.exactness.specs.Exact.{rational, at_values}
use Rattle.exactness.specs.Textbook.{textbook}
use Rattle.accuracy.proofs.Apart.{Apart}
use Rattle.accuracy.specs.Ring.{nat}
use Rattle.accuracy.proofs.Laws.Ring.{◌⋆◌}
use Rattle.accuracy.specs.Stated.{squares_roundings, fourths_roundings, total_bound}
use Rattle.estimate.specs.declared.answer.Estimate.TheVariants.{Complete}
use Rattle.estimate.specs.Estimates.{number, mean_of}
use Rattle.estimate_complete.specs.Complete.{mean_spread_of, complete_of}
use Rattle.estimates_complete.specs.Columns as Columns
use Rattle.refusals.specs.Accepted.{Rising}
use Rattle.house_factors.specs.Factors.{single_factors}
use Rattle.plan_layout.specs.declared.Arrangement.{Arrangement}
use Rattle.totals_configuration.specs.Powers.{correlation_at}
use Rattle.entry_correlations.specs.Correlations.{job_given, Correlated, HouseCorrelated}
use Rattle.entry_correlations.specs.declared.Manner.{Manner}
use Rattle.totals_call.specs.Jobs.{stored_count}
use Rattle.totals_call.specs.Calls.{Enumerated, EnumeratedEach, Sampled, HouseEnumerated, HouseEnumeratedEach, HouseSampled}
use Rattle.error_bound.specs.Bound.{error_bound_of}
use Rattle.demands.specs.OneJob.{InUnit, Exact, Bounded}
use Rattle.demands.specs.Mirror.{Mirrored}
use Rattle.demands.proofs.Accurate.{Accurate}
use Rattle.demands.proofs.AccurateTotals.{exactly, roundings}
use Rattle.demands.proofs.Configurations.{early, late, free}
use Rattle.demands.proofs.Correlations as Correlations
use Rattle.demands.proofs.Exhaustive as Exhaustive
use Rattle.demands.proofs.Storing as Storing
use Rattle.demands.proofs.Sampling as Sampling
use Rattle.demands_house.specs.Factors.{table_factors, configuration_of, drawn_of}
use Rattle.demands_house.proofs.Lent.{house_correlations_lent, house_enumeration_lent, house-storing-lent, house_sampling_lent}
use Rattle.demands_house.proofs.Laws.Lent.{number_not}

-- ---- `house_correlations`

module _ {n floor : ℕ} {a b : List ℕ} {m : List Float} {us vs : List ℕ} {couplings : List Float} {manner : Manner} {arrangement : Arrangement} {caller : Caller}
    {results results' work work' : List Float} (call : HouseCorrelated n floor a b m us vs couplings manner arrangement caller 0 results results' work work') where
  abbrev job : Job Float
  job = job_given n floor a b m (single_factors couplings) manner

  lent-results : Correlated n floor a b m us vs (single_factors couplings) manner arrangement caller 0 results results' work work'
  lent-results = house_correlations_lent call (λ e. omega arith)

  -- Exact,
  pub house-result-is : (i : ℕ) → i < length us → get_or results' i nan ≡ S.answer ieee job (get_or us i 0) (get_or vs i 0)
  house-result-is = Correlations.result-is lent-results refl

  pub house-result-exact : Exact job us vs
  house-result-exact = Correlations.result-exact lent-results refl

  -- bounded,
  pub house-result-bounded : (i : ℕ) → i < length us → InUnit (get_or results' i nan)
  house-result-bounded = Correlations.result-bounded lent-results refl

  pub house-result-within : Bounded job us vs
  house-result-within = Correlations.result-within lent-results refl

  -- mirrored,
  pub house-result-mirrored : Mirrored job us vs
  house-result-mirrored = Correlations.result-mirrored lent-results refl

  -- and accurate, where `error_bound` answers a bound for the table's factors.
  pub house-result-accurate : (bound : Float) → error_bound_of n floor a b m [] (single_factors couplings) false ≡ Ok (Some bound) → (i : ℕ) → i < length us
      → Apart (value (get_or results' i nan)) (textbook rational (at_values job) (get_or us i 0) (get_or vs i 0)) (value bound)
  house-result-accurate = Correlations.result-accurate lent-results refl

-- ---- `house_exhaustive`

module _ {n floor : ℕ} {a b : List ℕ} {m : List Float} {us vs : List ℕ} {betas : List Float} {manner : Manner} {arrangement : Arrangement} {caller : Caller}
    {squares squares' fourths fourths' work work' : List Float} {count : ℕ}
    (call : HouseEnumerated n floor a b m us vs betas manner arrangement caller (Ok count) squares squares' fourths fourths' work work') where
  lent_totals : Enumerated n floor a b m us vs betas (table_factors a b m betas) manner arrangement caller (Ok count) squares squares' fourths fourths' work work'
  lent_totals = house_enumeration_lent call number_not

  -- The betas rise strictly.
  pub house_enumeration_rising : Rising betas
  house_enumeration_rising = Exhaustive.enumeration_rising lent_totals

  -- Exact,
  pub house_squares_are : (k : ℕ) → k < length betas * length us
      → get_or squares' k nan ≡ enumerated ieee (square ieee) (free a b m) (λ x. correlation_at (configuration_of n floor a b m betas manner x) us vs k)
  house_squares_are = Exhaustive.squares_are lent_totals

  pub house_fourths_are : (k : ℕ) → k < length betas * length us
      → get_or fourths' k nan ≡ enumerated ieee (fourth ieee) (free a b m) (λ x. correlation_at (configuration_of n floor a b m betas manner x) us vs k)
  house_fourths_are = Exhaustive.fourths_are lent_totals

  pub house_enumeration_counted : count ≡ 2 ^ free a b m
  house_enumeration_counted = Exhaustive.enumeration_counted lent_totals

  pub house_enumeration_exact : (x beta : ℕ) → x < 2 ^ free a b m → beta < length betas → Exact (configuration_of n floor a b m betas manner x beta) us vs
  house_enumeration_exact = Exhaustive.enumeration_exact lent_totals

  -- bounded,
  pub house_enumeration_bounded : (k : ℕ) → k < length betas * length us → Ordered binary64 (get_or fourths' k nan) (get_or squares' k nan) count
  house_enumeration_bounded = Exhaustive.enumeration_bounded lent_totals

  pub house_enumeration_complete : (k : ℕ) → k < length betas * length us
      → complete_of count (get_or squares' k nan) (get_or fourths' k nan) ≡ Ok (Complete (mean_spread_of (number count) (get_or squares' k nan) (get_or fourths' k nan)))
  house_enumeration_complete = Exhaustive.enumeration_complete lent_totals

  pub house_enumeration_columns : let size = length betas * length us in Columns.refusal_of count squares' fourths' size size size ≡ 0
  house_enumeration_columns = Exhaustive.enumeration_columns lent_totals

  pub house_enumeration_within : (x beta : ℕ) → x < 2 ^ free a b m → beta < length betas → Bounded (configuration_of n floor a b m betas manner x beta) us vs
  house_enumeration_within = Exhaustive.enumeration_within lent_totals

  -- mirrored,
  pub house_enumeration_mirrored : (x beta : ℕ) → x < 2 ^ free a b m → beta < length betas → Mirrored (configuration_of n floor a b m betas manner x beta) us vs
  house_enumeration_mirrored = Exhaustive.enumeration_mirrored lent_totals

  -- and accurate, where `totals_error_bound` answers a bound for the table's factors.
  module _ (bound : Float) (answered : error_bound_of n floor a b m betas (table_factors a b m betas) true ≡ Ok (Some bound)) where
    pub house_enumeration_accurate : (x beta : ℕ) → x < 2 ^ free a b m → beta < length betas → Accurate (configuration_of n floor a b m betas manner x beta) us vs bound
    house_enumeration_accurate = Exhaustive.enumeration_accurate lent_totals bound answered

    module _ (k : ℕ) (l : k < length betas * length us) where
      abbrev ratio : ℕ → ℚ
      ratio x = exactly (configuration_of n floor a b m betas manner x (k / length us)) us vs (k % length us)

      pub house-squares-accurate : Apart (value (get_or squares' k nan)) (enumerated rational (square rational) (free a b m) ratio)
          (nat count ⋆ value (total_bound (squares_roundings (roundings n floor a b m) (chunk_count (free a b m)) (chunk_size (free a b m)))))
      house-squares-accurate = Exhaustive.squares-accurate lent_totals bound answered k l

      pub house-fourths-accurate : Apart (value (get_or fourths' k nan)) (enumerated rational (fourth rational) (free a b m) ratio)
          (nat count ⋆ value (total_bound (fourths_roundings (roundings n floor a b m) (chunk_count (free a b m)) (chunk_size (free a b m)))))
      house-fourths-accurate = Exhaustive.fourths-accurate lent_totals bound answered k l

      pub house-mean-accurate : Apart (value (mean_of (number count) (get_or squares' k nan))) (enumerated rational (square rational) (free a b m) ratio ⋆ invℚ (nat count))
          (value (total_bound (squares_roundings (roundings n floor a b m) (chunk_count (free a b m)) (chunk_size (free a b m)) + 1)))
      house-mean-accurate = Exhaustive.mean-accurate lent_totals bound answered k l

-- ---- `house_exhaustive_c`

module _ {n floor : ℕ} {a b : List ℕ} {m : List Float} {us vs : List ℕ} {betas : List Float} {manner : Manner} {arrangement : Arrangement} {caller : Caller}
    {stored stored' work work' : List Float} {count : ℕ}
    (call : HouseEnumeratedEach n floor a b m us vs betas manner arrangement caller (Ok count) stored stored' work work') where
  lent-stored : EnumeratedEach n floor a b m us vs betas (table_factors a b m betas) manner arrangement caller (Ok count) stored stored' work work'
  lent-stored = house-storing-lent call number_not

  -- The betas rise strictly.
  pub house-storing-rising : Rising betas
  house-storing-rising = Storing.storing-rising lent-stored

  -- Exact,
  pub house-stored-at : (x beta p : ℕ) → x < 2 ^ free a b m → beta < length betas → p < length us
      → get_or stored' ((beta * length us + p) * 2 ^ free a b m + x) nan ≡ S.answer ieee (configuration_of n floor a b m betas manner x beta) (get_or us p 0) (get_or vs p 0)
  house-stored-at = Storing.stored-at lent-stored

  pub house-storing-counted : count ≡ 2 ^ free a b m
  house-storing-counted = Storing.storing-counted lent-stored

  pub house-stored-exact : (x beta : ℕ) → x < 2 ^ free a b m → beta < length betas → Exact (configuration_of n floor a b m betas manner x beta) us vs
  house-stored-exact = Storing.stored_exact lent-stored

  -- bounded,
  pub house-stored-bounded : (k : ℕ) → k < stored_count (early a b m) (late a b m) us (length betas) → InUnit (get_or stored' k nan)
  house-stored-bounded = Storing.stored-bounded lent-stored

  pub house-stored-within : (x beta : ℕ) → x < 2 ^ free a b m → beta < length betas → Bounded (configuration_of n floor a b m betas manner x beta) us vs
  house-stored-within = Storing.stored-within lent-stored

  -- mirrored,
  pub house-stored-mirrored : (x beta : ℕ) → x < 2 ^ free a b m → beta < length betas → Mirrored (configuration_of n floor a b m betas manner x beta) us vs
  house-stored-mirrored = Storing.stored-mirrored lent-stored

  -- and accurate, where `totals_error_bound` answers a bound for the table's factors.
  pub house-stored-accurate : (bound : Float) → error_bound_of n floor a b m betas (table_factors a b m betas) true ≡ Ok (Some bound)
      → (x beta p : ℕ) → x < 2 ^ free a b m → beta < length betas → p < length us
      → Apart (value (get_or stored' ((beta * length us + p) * 2 ^ free a b m + x) nan)) (exactly (configuration_of n floor a b m betas manner x beta) us vs p) (value bound)
  house-stored-accurate = Storing.stored-accurate lent-stored

-- ---- `house_sample`

module _ {n floor : ℕ} {a b : List ℕ} {m : List Float} {us vs : List ℕ} {betas : List Float} {manner : Manner} {arrangement : Arrangement} {caller : Caller} {seed from to samples : ℕ}
    {squares squares' fourths fourths' work work' : List Float} {count : ℕ}
    (call : HouseSampled n floor a b m us vs betas manner arrangement caller seed from to samples (Ok count) squares squares' fourths fourths' work work') where
  lent-samples : Sampled n floor a b m us vs betas (table_factors a b m betas) manner arrangement caller seed from to samples (Ok count) squares squares' fourths fourths' work work'
  lent-samples = house_sampling_lent call number_not

  -- The betas rise strictly.
  pub house_sampling_rising : Rising betas
  house_sampling_rising = Sampling.sampling_rising lent-samples

  -- Exact,
  pub house_sampled_squares_are : (k : ℕ) → k < length betas * length us
      → get_or squares' k nan ≡ sampled ieee (square ieee) from to samples (λ i j. correlation_at (drawn_of n floor a b m betas manner seed i j) us vs k)
  house_sampled_squares_are = Sampling.sampled_squares_are lent-samples

  pub house_sampled_fourths_are : (k : ℕ) → k < length betas * length us
      → get_or fourths' k nan ≡ sampled ieee (fourth ieee) from to samples (λ i j. correlation_at (drawn_of n floor a b m betas manner seed i j) us vs k)
  house_sampled_fourths_are = Sampling.sampled_fourths_are lent-samples

  pub house_sampling_counted : count ≡ sampled_count from to samples
  house_sampling_counted = Sampling.sampling_counted lent-samples

  pub house_sampling_exact : (chunk j beta : ℕ) → from ≤ chunk → chunk < to → j < samples → beta < length betas → Exact (drawn_of n floor a b m betas manner seed chunk j beta) us vs
  house_sampling_exact = Sampling.sampling_exact lent-samples

  -- bounded,
  pub house_sampling_bounded : (k : ℕ) → k < length betas * length us → Ordered binary64 (get_or fourths' k nan) (get_or squares' k nan) count
  house_sampling_bounded = Sampling.sampling_bounded lent-samples

  pub house_sampling_within : (chunk j beta : ℕ) → from ≤ chunk → chunk < to → j < samples → beta < length betas → Bounded (drawn_of n floor a b m betas manner seed chunk j beta) us vs
  house_sampling_within = Sampling.sampling_within lent-samples

  -- mirrored,
  pub house_sampling_mirrored : (chunk j beta : ℕ) → from ≤ chunk → chunk < to → j < samples → beta < length betas → Mirrored (drawn_of n floor a b m betas manner seed chunk j beta) us vs
  house_sampling_mirrored = Sampling.sampling_mirrored lent-samples

  -- and accurate, where `totals_error_bound` answers a bound for the table's factors.
  module _ (bound : Float) (answered : error_bound_of n floor a b m betas (table_factors a b m betas) true ≡ Ok (Some bound)) where
    pub house_sampling_accurate : (chunk j beta : ℕ) → from ≤ chunk → chunk < to → j < samples → beta < length betas → Accurate (drawn_of n floor a b m betas manner seed chunk j beta) us vs bound
    house_sampling_accurate = Sampling.sampling_accurate lent-samples bound answered

    module _ (k : ℕ) (l : k < length betas * length us) where
      abbrev sample_ratio : ℕ → ℕ → ℚ
      sample_ratio chunk j = exactly (drawn_of n floor a b m betas manner seed chunk j (k / length us)) us vs (k % length us)

      pub house-sampled-squares-accurate : Apart (value (get_or squares' k nan)) (sampled rational (square rational) from to samples sample_ratio)
          (nat count ⋆ value (total_bound (squares_roundings (roundings n floor a b m) (to - from) samples)))
      house-sampled-squares-accurate = Sampling.sampled-squares-accurate lent-samples bound answered k l

      pub house-sampled-fourths-accurate : Apart (value (get_or fourths' k nan)) (sampled rational (fourth rational) from to samples sample_ratio)
          (nat count ⋆ value (total_bound (fourths_roundings (roundings n floor a b m) (to - from) samples)))
      house-sampled-fourths-accurate = Sampling.sampled-fourths-accurate lent-samples bound answered k l

      pub house-sampled-mean-accurate : 0 < count
          → Apart (value (mean_of (number count) (get_or squares' k nan))) (sampled rational (square rational) from to samples sample_ratio ⋆ invℚ (nat count))
          (value (total_bound (squares_roundings (roundings n floor a b m) (to - from) samples + 1)))
      house-sampled-mean-accurate = Sampling.sampled-mean-accurate lent-samples bound answered k l
