-- What the demands say of an accepted call of `sample`, of the stored totals and with no tolerance.
use Rattle.std.specs.Prelude.{◌≡◌, refl, Bool, true, false, List, ℕ, ◌+◌, ◌-◌, ◌*◌, ◌/◌, ◌%◌, ◌^◌, ◌≤◌, ◌<◌, Float, get_or}
use Rattle.std.specs.declared.result.Result.TheVariants.{Ok}
use Rattle.std.specs.declared.option.Option.TheVariants.{Some}
use Rattle.std.proofs.Math.Path.{subst}
use Rattle.std.proofs.Common.{inl, le_trans, arith, lit≤}
use Rattle.std.specs.Float.{nan, binary64}
use Rattle.std.proofs.Math.ListN.{length}
use Rattle.plan_layout.specs.Arrangements.{arrangement_of}
use Rattle.plan_layout.specs.declared.Arrangement.{Arrangement}
use Rattle.limits.specs.declared.Caller.{Caller}
use Rattle.list_laws.specs.Search.{some}
use Rattle.list_laws.proofs.Laws.Search.{none-at}
use Rattle.rounding.specs.Powers.{Ordered}
use Rattle.fraction.proofs.Fraction.{ℚ, invℚ}
use Rattle.fraction.proofs.Value.{value}
use Rattle.exactness.specs.Exact.{rational}
use Rattle.accuracy.proofs.Apart.{Apart}
use Rattle.accuracy.specs.Ring.{nat}
use Rattle.accuracy.proofs.Laws.Ring.{◌⋆◌}
use Rattle.accuracy.specs.Stated.{squares_roundings, fourths_roundings, total_bound}
use Rattle.estimate.specs.Estimates.{number, mean_of}
use Rattle.transfer_matrix.specs.Configuration.{sampled_minus}
use Rattle.transfer_matrix.specs.Job.{Job}
use Rattle.transfer_matrix.specs.Rounded.{ieee}
use Rattle.transfer_matrix.specs.Totals.{square, fourth, sampled, sampled_count}
use Rattle.refusals.specs.Accepted.{Rising}
use Rattle.refusals.proofs.Laws.Rising.{rising}
use Rattle.refusals.specs.AcceptedTotals.{AcceptedTotals, misfits}
use Rattle.refusals.proofs.Laws.AcceptedTotals.{accepted_sampling}
use Rattle.refusals.specs.Edges.{window_from}
use Rattle.refusals.specs.Key.{Key}
use Rattle.refusals.proofs.Laws.First.{passed-at}
use Rattle.refusals.specs.Refusal.{of_sampling}
use Rattle.refusals.specs.Request.{sampling_request}
use Rattle.pair_correlations.specs.Sound.{unsound}
use Rattle.bounds.proofs.AnswerTotals.{sampled-answers-bounded}
use Rattle.totals_configuration.specs.Powers.{correlation_at}
use Rattle.entry_correlations.specs.Correlations.{manner_of}
use Rattle.entry_correlations.specs.declared.Manner.{Manner}
use Rattle.totals_call.specs.Jobs.{unsound_sampling}
use Rattle.totals_call.specs.Calls.{Sampled, refused_sampling}
use Rattle.error_bound.specs.Bound.{error_bound_of}
use Rattle.demands.proofs.Laws.Lists.{settled_at}
use Rattle.demands.proofs.Configurations as C
use Rattle.demands.proofs.Configurations.{accepted-number, pair_inside, beta-inside, signed-sound}
use Rattle.demands.proofs.Accurate.{Accurate}
use Rattle.demands.proofs.AccurateTotals as A
use Rattle.demands.proofs.OneJob.{answerable, exact, bounded}
use Rattle.demands.specs.OneJob.{Exact, Bounded, Sound}
use Rattle.demands.proofs.Mirror.{mirrored}
use Rattle.demands.specs.Mirror.{Mirrored}

module _ {n floor : ℕ} {a b : List ℕ} {m : List Float} {us vs : List ℕ} {betas factors : List Float} {manner : Manner} {arrangement : Arrangement} {caller : Caller} {seed from to samples : ℕ}
    {squares squares' fourths fourths' work work' : List Float} {count : ℕ}
    (call : Sampled n floor a b m us vs betas factors manner arrangement caller seed from to samples (Ok count) squares squares' fourths fourths' work work') where
  -- The job of a chunk's sample, at a beta.
  abbrev drawn : (chunk sample : ℕ) → ℕ → Job Float
  drawn = C.drawn_configuration n floor a b m factors manner seed

  abbrev bad : Bool
  bad = unsound_sampling n (window_from floor a b m) (C.early a b m) (C.late a b m) factors (manner_of manner) us vs (length betas) seed from to samples

  abbrev misfit : Bool
  misfit = misfits (length betas * length us) (length squares) (length fourths)

  accepted : (refused_sampling n floor a b m us vs betas factors manner arrangement caller seed from to samples (length squares) (length fourths) (length work) ≡ 0)
      × (count ≡ sampled_count from to samples)
  accepted = accepted-number _ _ count call.call.answer

  facts : AcceptedTotals (arrangement_of arrangement) n floor a b m us vs betas factors misfit (length work) × ((to - from) * samples ≤ 4294967296)
  facts = accepted_sampling caller (arrangement_of arrangement) n floor a b m us vs betas factors (C.free a b m) from to samples misfit (length work) bad 0 accepted.0 (inl refl)

  -- The betas rise strictly.
  pub sampling_rising : Rising betas
  sampling_rising = rising betas facts.0.betas_pass.rising

  none-bad : bad ≡ false
  none-bad =
      passed-at of_sampling (sampling_request caller (arrangement_of arrangement) n floor a b m us vs betas factors (C.free a b m) from to samples misfit (length work) bad) accepted.0 Key.partition_sums refl

  -- the chunks by how far they are from the first
  drawn-sound : (i j beta : ℕ) → i < to - from → j < samples → beta < length betas → Sound (drawn (from + i) j beta) us vs
  drawn-sound i j beta h s l =
      signed-sound n floor a b m us vs betas factors manner misfit (length work) facts.0 (sampled_minus seed (length (C.early a b m)) (from + i) j) beta l
      (none-at (λ c. unsound (drawn (from + i) j c) us vs) (length betas) beta l
      (none-at (λ y. some (λ c. unsound (drawn (from + i) y c) us vs) (length betas)) samples j s
      (none-at (λ z. some (λ y. some (λ c. unsound (drawn (from + z) y c) us vs) (length betas)) samples) (to - from) i h none-bad)))

  -- Every sample's job is sound at every beta.
  pub sampling_sound : (chunk j beta : ℕ) → from ≤ chunk → chunk < to → j < samples → beta < length betas → Sound (drawn chunk j beta) us vs
  sampling_sound chunk j beta u v s l =
      let e : from + (chunk - from) ≡ chunk = omega arith in
      subst (λ (c : ℕ). Sound (drawn c j beta) us vs) e (drawn-sound (chunk - from) j beta (omega arith) s l)

  -- Exact: the totals are the definition's, of squares and of fourth powers,
  settled-squares : (q : ℕ) → q < length betas * length us
      → get_or squares' q nan ≡ sampled ieee (square ieee) from to samples (λ i j. correlation_at (drawn i j) us vs q)
  settled-squares =
      settled_at _ (λ k. sampled ieee (square ieee) from to samples (λ i j. correlation_at (drawn i j) us vs k)) (length betas * length us) squares squares'
      accepted.0 call.call.squares_are

  pub sampled_squares_are : (k : ℕ) → k < length betas * length us
      → get_or squares' k nan ≡ sampled ieee (square ieee) from to samples (λ i j. correlation_at (drawn i j) us vs k)
  sampled_squares_are = settled-squares

  pub sampled_fourths_are : (k : ℕ) → k < length betas * length us
      → get_or fourths' k nan ≡ sampled ieee (fourth ieee) from to samples (λ i j. correlation_at (drawn i j) us vs k)
  sampled_fourths_are =
      settled_at _ (λ k. sampled ieee (fourth ieee) from to samples (λ i j. correlation_at (drawn i j) us vs k)) (length betas * length us) fourths fourths'
      accepted.0 call.call.fourths_are

  -- the count is chunks times samples,
  pub sampling_counted : count ≡ sampled_count from to samples
  sampling_counted = accepted.1

  -- and the correlations summed are, without rounding, the textbook ratios: of every sample, beta and pair.
  pub sampling_exact : (chunk j beta : ℕ) → from ≤ chunk → chunk < to → j < samples → beta < length betas → Exact (drawn chunk j beta) us vs
  sampling_exact chunk j beta u v s l = exact (sampling_sound chunk j beta u v s l)

  -- Bounded: in every total 0 ≤ fourth powers ≤ squares ≤ count,
  pub sampling_bounded : (k : ℕ) → k < length betas * length us → Ordered binary64 (get_or fourths' k nan) (get_or squares' k nan) count
  sampling_bounded k l =
      let p = k % length us in
      let beta = k / length us in
      let few = facts.1 in
      rw (settled-squares k l, sampled_fourths_are k l, sampling_counted)
      (sampled-answers-bounded from to samples (λ i j. drawn i j beta) (get_or us p 0) (get_or vs p 0) (omega arith)
      (λ chunk j u v s.
      answerable (sampling_sound chunk j beta u v s (beta-inside (length betas) (length us) k l)) p (pair_inside (length betas) (length us) k l)))

  -- each correlation summed lies in [-1, 1], and no entry of a propagated vector exceeds the forward vector's in size.
  pub sampling_within : (chunk j beta : ℕ) → from ≤ chunk → chunk < to → j < samples → beta < length betas → Bounded (drawn chunk j beta) us vs
  sampling_within chunk j beta u v s l = bounded (sampling_sound chunk j beta u v s l)

  -- Mirrored: forward and backward vectors are the same with every spin flipped, propagated ones opposite.
  pub sampling_mirrored : (chunk j beta : ℕ) → from ≤ chunk → chunk < to → j < samples → beta < length betas → Mirrored (drawn chunk j beta) us vs
  sampling_mirrored chunk j beta u v s l = mirrored (sampling_sound chunk j beta u v s l)

  -- Accurate: where `totals_error_bound` answers a bound for the same graph, floor, betas and factors,
  module _ (bound : Float) (answered : error_bound_of n floor a b m betas factors true ≡ Ok (Some bound)) where
    -- each correlation summed is within it of the textbook ratio,
    pub sampling_accurate : (chunk j beta : ℕ) → from ≤ chunk → chunk < to → j < samples → beta < length betas → Accurate (drawn chunk j beta) us vs bound
    sampling_accurate chunk j beta u v s l =
        A.signed-accurate n floor a b m us vs betas factors manner misfit (length work) facts.0 bound answered
        (sampled_minus seed (length (C.early a b m)) chunk j) beta l (sampling_sound chunk j beta u v s l)

    module _ (k : ℕ) (l : k < length betas * length us) where
      abbrev ratio : ℕ → ℕ → ℚ
      ratio chunk j = A.exactly (drawn chunk j (k / length us)) us vs (k % length us)

      abbrev taken : ℕ
      taken = A.roundings n floor a b m

      few : (to - from) * samples ≤ 2 ^ 34
      few = le_trans facts.1 (lit≤ tt)

      sound-at : (c j : ℕ) → c < to - from → j < samples → Sound (drawn (from + c) j (k / length us)) us vs
      sound-at c j u v = drawn-sound c j (k / length us) u v (beta-inside (length betas) (length us) k l)

      -- each total is within the count times so many units of that of the textbook ratios,
      pub sampled-squares-accurate : Apart (value (get_or squares' k nan)) (sampled rational (square rational) from to samples ratio)
          (nat count ⋆ value (total_bound (squares_roundings taken (to - from) samples)))
      unfolding sampled
      sampled-squares-accurate =
          rw (settled-squares k l, sampling_counted)
          (A.squares-apart n floor a b m us vs betas factors manner misfit (length work) facts.0 bound answered (to - from) samples few
          (λ c j. sampled_minus seed (length (C.early a b m)) (from + c) j) (k / length us) (k % length us)
          (beta-inside (length betas) (length us) k l) (pair_inside (length betas) (length us) k l) sound-at)

      pub sampled-fourths-accurate : Apart (value (get_or fourths' k nan)) (sampled rational (fourth rational) from to samples ratio)
          (nat count ⋆ value (total_bound (fourths_roundings taken (to - from) samples)))
      unfolding sampled
      sampled-fourths-accurate =
          rw (sampled_fourths_are k l, sampling_counted)
          (A.fourths-apart n floor a b m us vs betas factors manner misfit (length work) facts.0 bound answered (to - from) samples few
          (λ c j. sampled_minus seed (length (C.early a b m)) (from + c) j) (k / length us) (k % length us)
          (beta-inside (length betas) (length us) k l) (pair_inside (length betas) (length us) k l) sound-at)

      -- and, where something is counted, the mean of the squares within so many units of the exact mean of these samples.
      pub sampled-mean-accurate : 0 < count
          → Apart (value (mean_of (number count) (get_or squares' k nan))) (sampled rational (square rational) from to samples ratio ⋆ invℚ (nat count))
          (value (total_bound (squares_roundings taken (to - from) samples + 1)))
      unfolding sampled
      sampled-mean-accurate some =
          let counted : 0 < (to - from) * samples = subst (λ (c : ℕ). 0 < c) sampling_counted some in
          rw (settled-squares k l, sampling_counted)
          (A.mean-apart n floor a b m us vs betas factors manner misfit (length work) facts.0 bound answered (to - from) samples few
          (λ c j. sampled_minus seed (length (C.early a b m)) (from + c) j) (k / length us) (k % length us)
          (beta-inside (length betas) (length us) k l) (pair_inside (length betas) (length us) k l) sound-at counted)
