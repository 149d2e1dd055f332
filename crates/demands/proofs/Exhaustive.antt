-- What the demands say of an accepted call of `exhaustive`, of the stored totals and with no tolerance.
use Rattle.std.specs.Prelude.{◌≡◌, Bool, true, List, ℕ, ◌+◌, ◌*◌, ◌/◌, ◌%◌, ◌^◌, ◌≤◌, ◌<◌, Float, get_or}
use Rattle.std.specs.declared.result.Result.TheVariants.{Ok}
use Rattle.std.specs.declared.option.Option.TheVariants.{Some}
use Rattle.std.proofs.Common.{sym, ◌∙◌, arith, pow_pos, pow_mono}
use Rattle.std.specs.Float.{nan, binary64}
use Rattle.std.proofs.Math.ListN.{length}
use Rattle.plan_layout.specs.Arrangements.{arrangement_of}
use Rattle.plan_layout.specs.declared.Arrangement.{Arrangement}
use Rattle.limits.specs.declared.Caller.{Caller}
use Rattle.rounding.specs.Powers.{Ordered}
use Rattle.fraction.proofs.Fraction.{ℚ, invℚ}
use Rattle.fraction.proofs.Value.{value}
use Rattle.exactness.specs.Exact.{rational}
use Rattle.accuracy.proofs.Apart.{Apart}
use Rattle.accuracy.specs.Ring.{nat}
use Rattle.accuracy.proofs.Laws.Ring.{◌⋆◌}
use Rattle.accuracy.specs.Stated.{squares_roundings, fourths_roundings, total_bound}
use Rattle.estimate.specs.declared.answer.Estimate.TheVariants.{Complete}
use Rattle.estimate.specs.Estimates.{number, mean_of}
use Rattle.estimate_complete.specs.Complete.{Power, mean_spread_of, complete_of}
use Rattle.estimate_complete.proofs.Theorems.{ordered_complete}
use Rattle.estimates_complete.specs.Columns as Columns
use Rattle.estimates_complete.proofs.Laws.Accepted.{ordered-accepted}
use Rattle.forest.specs.FreeEdges.{bit_of}
use Rattle.transfer_matrix.specs.Configuration.{enumerated_minus}
use Rattle.transfer_matrix.specs.Job.{Job}
use Rattle.transfer_matrix.specs.Rounded.{ieee}
use Rattle.transfer_matrix.specs.Totals.{square, fourth, chunk_size, chunk_count, enumerated, enumerated_count}
use Rattle.refusals.specs.AcceptedTotals.{AcceptedTotals, misfits}
use Rattle.refusals.specs.Request.{most_counted}
use Rattle.refusals.specs.Accepted.{Rising}
use Rattle.refusals.proofs.Laws.Rising.{rising}
use Rattle.bounds.proofs.AnswerTotals.{enumerated-answers-bounded}
use Rattle.bounds.proofs.Laws.Chunks.{chunks_cover, configuration_lt}
use Rattle.totals_configuration.specs.Powers.{correlation_at}
use Rattle.entry_correlations.specs.declared.Manner.{Manner}
use Rattle.totals_call.specs.Calls.{Enumerated, refused_enumeration}
use Rattle.error_bound.specs.Bound.{error_bound_of}
use Rattle.demands.proofs.Laws.Lists.{settled_at, settled-length}
use Rattle.demands.proofs.Configurations as C
use Rattle.demands.proofs.Configurations.{accepted-number, pair_inside, beta-inside, enumeration_facts, few-free, configuration-sound}
use Rattle.demands.proofs.Accurate.{Accurate}
use Rattle.demands.proofs.AccurateTotals as A
use Rattle.demands.proofs.OneJob.{answerable, exact, bounded}
use Rattle.demands.specs.OneJob.{Exact, Bounded, Sound}
use Rattle.demands.proofs.Mirror.{mirrored}
use Rattle.demands.specs.Mirror.{Mirrored}

module _ {n floor : ℕ} {a b : List ℕ} {m : List Float} {us vs : List ℕ} {betas factors : List Float} {manner : Manner} {arrangement : Arrangement} {caller : Caller}
    {squares squares' fourths fourths' work work' : List Float} {count : ℕ}
    (call : Enumerated n floor a b m us vs betas factors manner arrangement caller (Ok count) squares squares' fourths fourths' work work') where
  abbrev free : ℕ
  free = C.free a b m

  abbrev configuration : ℕ → ℕ → Job Float
  configuration = C.configuration n floor a b m factors manner

  accepted : (refused_enumeration n floor a b m us vs betas factors manner arrangement caller (length squares) (length fourths) (length work) ≡ 0)
      × (count ≡ enumerated_count free)
  accepted = accepted-number _ _ count call.call.answer

  abbrev misfit : Bool
  misfit = misfits (length betas * length us) (length squares) (length fourths)

  facts : AcceptedTotals (arrangement_of arrangement) n floor a b m us vs betas factors misfit (length work)
  facts = (enumeration_facts n floor a b m us vs betas factors manner misfit (length work) caller (arrangement_of arrangement) most_counted accepted.0).0

  -- The betas rise strictly.
  pub enumeration_rising : Rising betas
  enumeration_rising = rising betas facts.betas_pass.rising

  -- Every configuration's job is sound at every beta.
  pub enumeration_sound : (x beta : ℕ) → x < 2 ^ free → beta < length betas → Sound (configuration x beta) us vs
  enumeration_sound = configuration-sound n floor a b m us vs betas factors manner misfit (length work) caller (arrangement_of arrangement) most_counted accepted.0

  -- Exact: the totals are the definition's, of squares and of fourth powers,
  pub squares_are : (k : ℕ) → k < length betas * length us
      → get_or squares' k nan ≡ enumerated ieee (square ieee) free (λ x. correlation_at (configuration x) us vs k)
  squares_are =
      settled_at _ (λ k. enumerated ieee (square ieee) free (λ x. correlation_at (configuration x) us vs k)) (length betas * length us) squares squares'
      accepted.0 call.call.squares_are

  pub fourths_are : (k : ℕ) → k < length betas * length us
      → get_or fourths' k nan ≡ enumerated ieee (fourth ieee) free (λ x. correlation_at (configuration x) us vs k)
  fourths_are =
      settled_at _ (λ k. enumerated ieee (fourth ieee) free (λ x. correlation_at (configuration x) us vs k)) (length betas * length us) fourths fourths'
      accepted.0 call.call.fourths_are

  -- the count is 2^free,
  configurations-counted : count ≡ 2 ^ free
  configurations-counted = accepted.1

  pub enumeration_counted : count ≡ 2 ^ free
  enumeration_counted = configurations-counted

  -- and the correlations summed are, without rounding, the textbook ratios: of every configuration, beta and pair.
  pub enumeration_exact : (x beta : ℕ) → x < 2 ^ free → beta < length betas → Exact (configuration x beta) us vs
  enumeration_exact x beta h l = exact (enumeration_sound x beta (omega arith) l)

  -- Bounded: in every total 0 ≤ fourth powers ≤ squares ≤ count,
  totals-ordered : (k : ℕ) → k < length betas * length us → Ordered binary64 (get_or fourths' k nan) (get_or squares' k nan) count
  totals-ordered k l =
      let p = k % length us in
      let beta = k / length us in
      let few = few-free n floor a b m us vs betas factors manner misfit (length work) caller (arrangement_of arrangement) most_counted accepted.0 in
      rw (squares_are k l, fourths_are k l, configurations-counted)
      (enumerated-answers-bounded free (λ x. configuration x beta) (get_or us p 0) (get_or vs p 0) (omega arith)
      (λ x h. answerable (enumeration_sound x beta h (beta-inside (length betas) (length us) k l)) p (pair_inside (length betas) (length us) k l)))

  pub enumeration_bounded : (k : ℕ) → k < length betas * length us → Ordered binary64 (get_or fourths' k nan) (get_or squares' k nan) count
  enumeration_bounded k l = totals-ordered k l

  -- so `estimate_complete` accepts it, and `estimates_complete` all of them: nothing was sampled, and there is no sampling error,
  enumeration_power : Power count
  enumeration_power = record {
    free = free;
    few = few-free n floor a b m us vs betas factors manner misfit (length work) caller (arrangement_of arrangement) most_counted accepted.0;
    is = configurations-counted;
  }

  pub enumeration_complete : (k : ℕ) → k < length betas * length us
      → complete_of count (get_or squares' k nan) (get_or fourths' k nan) ≡ Ok (Complete (mean_spread_of (number count) (get_or squares' k nan) (get_or fourths' k nan)))
  enumeration_complete k l = ordered_complete enumeration_power (totals-ordered k l)

  pub enumeration_columns : let size = length betas * length us in Columns.refusal_of count squares' fourths' size size size ≡ 0
  enumeration_columns =
      ordered-accepted squares' fourths' (length betas * length us) enumeration_power
      (settled-length _ (λ k. enumerated ieee (square ieee) free (λ x. correlation_at (configuration x) us vs k)) (length betas * length us) squares squares'
      accepted.0 call.call.squares_are)
      (settled-length _ (λ k. enumerated ieee (fourth ieee) free (λ x. correlation_at (configuration x) us vs k)) (length betas * length us) fourths fourths'
      accepted.0 call.call.fourths_are)
      totals-ordered

  -- each correlation summed lies in [-1, 1], and no entry of a propagated vector exceeds the forward vector's in size.
  pub enumeration_within : (x beta : ℕ) → x < 2 ^ free → beta < length betas → Bounded (configuration x beta) us vs
  enumeration_within x beta h l = bounded (enumeration_sound x beta h l)

  -- Mirrored: forward and backward vectors are the same with every spin flipped, propagated ones opposite.
  pub enumeration_mirrored : (x beta : ℕ) → x < 2 ^ free → beta < length betas → Mirrored (configuration x beta) us vs
  enumeration_mirrored x beta h l = mirrored (enumeration_sound x beta h l)

  -- Accurate: where `totals_error_bound` answers a bound for the same graph, floor, betas and factors,
  module _ (bound : Float) (answered : error_bound_of n floor a b m betas factors true ≡ Ok (Some bound)) where
    -- each correlation summed is within it of the textbook ratio,
    pub enumeration_accurate : (x beta : ℕ) → x < 2 ^ free → beta < length betas → Accurate (configuration x beta) us vs bound
    enumeration_accurate x beta h l =
        A.signed-accurate n floor a b m us vs betas factors manner misfit (length work) facts bound answered
        (enumerated_minus (bit_of (C.early a b m) (C.late a b m)) x) beta l (enumeration_sound x beta h l)

    module _ (k : ℕ) (l : k < length betas * length us) where
      abbrev ratio : ℕ → ℚ
      ratio x = A.exactly (configuration x (k / length us)) us vs (k % length us)

      abbrev taken : ℕ
      taken = A.roundings n floor a b m

      abbrev minus : ℕ → ℕ → ℕ → Bool
      minus c j = enumerated_minus (bit_of (C.early a b m) (C.late a b m)) (c * chunk_size free + j)

      covered : chunk_count free * chunk_size free ≡ count
      covered = chunks_cover free ∙ sym configurations-counted

      few : chunk_count free * chunk_size free ≤ 2 ^ 34
      few = rw (chunks_cover free) (pow_mono (few-free n floor a b m us vs betas factors manner misfit (length work) caller (arrangement_of arrangement) most_counted accepted.0))

      sound-at : (c j : ℕ) → c < chunk_count free → j < chunk_size free → Sound (configuration (c * chunk_size free + j) (k / length us)) us vs
      sound-at c j u v = enumeration_sound (c * chunk_size free + j) (k / length us) (configuration_lt free c j u v) (beta-inside (length betas) (length us) k l)

      -- each total is within the count times so many units of that of the textbook ratios,
      pub squares-accurate : Apart (value (get_or squares' k nan)) (enumerated rational (square rational) free ratio)
          (nat count ⋆ value (total_bound (squares_roundings taken (chunk_count free) (chunk_size free))))
      unfolding enumerated
      squares-accurate =
          rw (squares_are k l, ← covered)
          (A.squares-apart n floor a b m us vs betas factors manner misfit (length work) facts bound answered (chunk_count free) (chunk_size free) few minus
          (k / length us) (k % length us) (beta-inside (length betas) (length us) k l) (pair_inside (length betas) (length us) k l) sound-at)

      pub fourths-accurate : Apart (value (get_or fourths' k nan)) (enumerated rational (fourth rational) free ratio)
          (nat count ⋆ value (total_bound (fourths_roundings taken (chunk_count free) (chunk_size free))))
      unfolding enumerated
      fourths-accurate =
          rw (fourths_are k l, ← covered)
          (A.fourths-apart n floor a b m us vs betas factors manner misfit (length work) facts bound answered (chunk_count free) (chunk_size free) few minus
          (k / length us) (k % length us) (beta-inside (length betas) (length us) k l) (pair_inside (length betas) (length us) k l) sound-at)

      -- and the mean of the squares, as `estimate` divides, within so many units of the exact mean.
      pub mean-accurate : Apart (value (mean_of (number count) (get_or squares' k nan))) (enumerated rational (square rational) free ratio ⋆ invℚ (nat count))
          (value (total_bound (squares_roundings taken (chunk_count free) (chunk_size free) + 1)))
      unfolding enumerated
      mean-accurate =
          rw (squares_are k l, ← covered)
          (A.mean-apart n floor a b m us vs betas factors manner misfit (length work) facts bound answered (chunk_count free) (chunk_size free) few minus
          (k / length us) (k % length us) (beta-inside (length betas) (length us) k l) (pair_inside (length betas) (length us) k l) sound-at
          (rw (chunks_cover free) (pow_pos free)))
