-- How far the totals of an accepted call are from those of the textbook's correlations, where `totals_error_bound` answers a bound for the same graph,
-- floor, betas and factors.
use Rattle.std.specs.Prelude.{◌≡◌, Bool, List, ℕ, ◌+◌, ◌*◌, ◌^◌, ◌≤◌, ◌<◌, T, Float, length, get_or}
use Rattle.std.specs.declared.result.Result.TheVariants.{Ok}
use Rattle.std.specs.declared.option.Option.TheVariants.{Some}
use Rattle.std.proofs.Math.Bool.{true}
use Rattle.std.proofs.Common.{arith}
use Rattle.std.specs.Float.{nan}
use Rattle.std.specs.Float.Ieee.{of_int}
use Rattle.std.specs.Float.Ieee.Positive.{positive}
use Rattle.std.proofs.lemmas.List.{length-map}
use Rattle.transfer_matrix.specs.Room as Room
use Rattle.fraction.proofs.Fraction.{ℚ, oneℚ, invℚ}
use Rattle.fraction.proofs.Value.{value}
use Rattle.rounding.specs.Under.{unit}
use Rattle.rounding.specs.Laws.Under.{Under}
use Rattle.transfer_matrix.specs.Configuration.{lent_at, configured}
use Rattle.transfer_matrix.specs.Job.{Job}
use Rattle.transfer_matrix.specs.Rounded.{ieee}
use Rattle.transfer_matrix.specs.Sweep.{answer}
use Rattle.transfer_matrix.specs.Totals.{square, fourth, chunked}
use Rattle.exactness.specs.Exact.{rational, at_values}
use Rattle.exactness.specs.Textbook.{textbook}
use Rattle.bounds.proofs.Bounds.{correlation-under}
use Rattle.refusals.proofs.Laws.AcceptedJob.{passes-positive}
use Rattle.refusals.specs.AcceptedTotals.{AcceptedTotals}
use Rattle.refusals.specs.Edges.{kept, window_from}
use Rattle.refusals.specs.Request.{signed_factors}
use Rattle.accuracy.proofs.Apart.{Apart}
use Rattle.accuracy.proofs.Close.{Close}
use Rattle.accuracy.specs.Ring.{nat}
use Rattle.accuracy.proofs.Laws.Ring.{◌⋆◌}
use Rattle.accuracy.specs.Stated.{roundings_of, squares_roundings, fourths_roundings, total_bound}
use Rattle.accuracy.proofs.Laws.Totals as T
use Rattle.estimate.specs.Estimates.{number, mean_of}
use Rattle.entry_correlations.specs.Correlations.{manner_of}
use Rattle.entry_correlations.specs.declared.Manner.{Manner}
use Rattle.error_bound.specs.Bound.{most_bits, error_bound_of}
use Rattle.error_bound.proofs.Laws.Margin.{bits-few, near-one-all}
use Rattle.demands.proofs.Laws.Given.{lent-inside}
use Rattle.demands.proofs.OneJob.{Z-positive}
use Rattle.demands.specs.OneJob.{Sound}
use Rattle.demands.proofs.Configurations.{early, signed_job}
use Rattle.demands.proofs.Accurate.{Accurate, near_of, bound_known, made-close, close-within, roundings-short}

-- The textbook ratio of job J for pair i.
abbrev pub exactly : Job Float → List ℕ → List ℕ → ℕ → ℚ
exactly J us vs i = textbook rational (at_values J) (get_or us i 0) (get_or vs i 0)

-- ---- how many roundings a correlation takes, in a call for this graph

abbrev pub roundings : (n floor : ℕ) → (a b : List ℕ) → List Float → ℕ
roundings n floor a b m = roundings_of n (window_from floor a b m) (near_of n floor a b m)

module _ (n floor : ℕ) (a b : List ℕ) (m : List Float) (us vs : List ℕ) (betas factors : List Float) (manner : Manner) (misfit : Bool) (work : ℕ)
    {A : Room.Arrangement} (ok : AcceptedTotals A n floor a b m us vs betas factors misfit work) (bound : Float) (answered : error_bound_of n floor a b m betas factors true ≡ Ok (Some bound)) where
  abbrev edges : ℕ
  edges = length (early a b m)

  edges_are : edges ≡ length (kept a b m)
  edges_are = length-map (kept a b m) (λ x. x.early)

  -- ---- a configuration's job, by the sign of each edge
  module _ (minus : ℕ → Bool) (beta : ℕ) (in-betas : beta < length betas) where
    abbrev factor : ℕ → Float
    factor e = get_or factors (lent_at edges beta e (minus e)) nan

    lent : (e : ℕ) → e < length (kept a b m) → lent_at edges beta e (minus e) < signed_factors (length betas) (length (kept a b m))
    lent e l = rw edges_are (lent-inside n floor a b m us vs betas factors misfit work manner ok (length (kept a b m)) beta e (minus e) l in-betas)

    factor-positive : (e : ℕ) → e < length (kept a b m) → T (positive (factor e))
    factor-positive e l = passes-positive _ (ok.factors_pass _ (lent e l))

    -- each correlation is the textbook's but for so many roundings,
    pub signed-close : Sound (signed_job n floor a b m factors manner minus beta) us vs → (i : ℕ) → i < length us
        → Close (roundings n floor a b m) (answer ieee (signed_job n floor a b m factors manner minus beta) (get_or us i 0) (get_or vs i 0))
        (exactly (signed_job n floor a b m factors manner minus beta) us vs i) oneℚ
    unfolding configured
    signed-close sound i l =
        let w = window_from floor a b m in
        let near = near_of n floor a b m in
        let told = bound_known n floor a b m betas factors true bound answered in
        let count = edges_are in
        made-close n floor a b m us vs (manner_of manner) ok.job factor factor-positive
        (λ e k.
        let inside = lent e (omega arith) in
        near-one-all (most_bits w near) (bits-few w near) factors told.0 (lent_at edges beta e (minus e)) (omega (arith, ok.factor-count)) (factor-positive e (omega arith)))
        i l (Z-positive sound i l)

    -- and so within the bound
    pub signed-accurate : Sound (signed_job n floor a b m factors manner minus beta) us vs → Accurate (signed_job n floor a b m factors manner minus beta) us vs bound
    unfolding configured
    signed-accurate sound = record {
      correlation = λ i l.
          rw (bound_known n floor a b m betas factors true bound answered).1
          (close-within n floor a b m us vs (manner_of manner) ok.job factor factor-positive (signed-close sound i l));
    }

  -- ---- the totals of one beta and pair, of so many chunks of one size: `minus` gives the signs of a chunk's configurations
  module _ (chunks size : ℕ) (few : chunks * size ≤ 2 ^ 34) (minus : ℕ → ℕ → ℕ → Bool) (beta i : ℕ) (in-betas : beta < length betas) (in_pairs : i < length us)
      (sound : (c j : ℕ) → c < chunks → j < size → Sound (signed_job n floor a b m factors manner (minus c j) beta) us vs) where
    abbrev job : ℕ → ℕ → Job Float
    job c j = signed_job n floor a b m factors manner (minus c j) beta

    abbrev rounded : ℕ → ℕ → Float
    rounded c j = answer ieee (job c j) (get_or us i 0) (get_or vs i 0)

    abbrev exact : ℕ → ℕ → ℚ
    exact c j = exactly (job c j) us vs i

    close : (c j : ℕ) → c < chunks → j < size → Close (roundings n floor a b m) (rounded c j) (exact c j) oneℚ
    close c j u v = signed-close (minus c j) beta in-betas (sound c j u v) i in_pairs

    under : (c j : ℕ) → c < chunks → j < size → Under (rounded c j) unit
    under c j u v = let s = sound c j u v in correlation-under (job c j) s.checked (get_or us i 0) (get_or vs i 0) (Z-positive s i in_pairs)

    short : roundings n floor a b m ≤ 2 ^ 26
    short = roundings-short n floor a b m us vs ok.job

    pub squares-apart : Apart (value (chunked ieee chunks size (λ c j. square ieee (rounded c j)))) (chunked rational chunks size (λ c j. square rational (exact c j)))
        (nat (chunks * size) ⋆ value (total_bound (squares_roundings (roundings n floor a b m) chunks size)))
    squares-apart = T.squares-apart (roundings n floor a b m) chunks size rounded exact short few close under

    pub fourths-apart : Apart (value (chunked ieee chunks size (λ c j. fourth ieee (rounded c j)))) (chunked rational chunks size (λ c j. fourth rational (exact c j)))
        (nat (chunks * size) ⋆ value (total_bound (fourths_roundings (roundings n floor a b m) chunks size)))
    fourths-apart = T.fourths-apart (roundings n floor a b m) chunks size rounded exact short few close under

    pub mean-apart : 0 < chunks * size
        → Apart (value (mean_of (number (chunks * size)) (chunked ieee chunks size (λ c j. square ieee (rounded c j)))))
        (chunked rational chunks size (λ c j. square rational (exact c j)) ⋆ invℚ (nat (chunks * size)))
        (value (total_bound (squares_roundings (roundings n floor a b m) chunks size + 1)))
    unfolding of_int
    mean-apart h = T.mean-apart (roundings n floor a b m) chunks size rounded exact short few close under h
