-- What the demands say of an accepted call of `correlations`, of the stored results and with no tolerance.
use Rattle.std.specs.Prelude.{◌≡◌, refl, false, List, [], ℕ, ◌<◌, T, Float, length, get_or}
use Rattle.std.specs.declared.result.Result.TheVariants.{Ok}
use Rattle.std.specs.declared.option.Option.TheVariants.{Some}
use Rattle.std.proofs.Common.{sym, ◌∙◌, inl, arith}
use Rattle.std.specs.Float.{nan}
use Rattle.std.specs.Float.Ieee.Positive.{positive}
use Rattle.std.proofs.lemmas.List.{length-map}
use Rattle.plan_layout.specs.Arrangements.{arrangement_of}
use Rattle.plan_layout.specs.declared.Arrangement.{Arrangement}
use Rattle.limits.specs.declared.Caller.{Caller}
use Rattle.fraction.proofs.Value.{value}
use Rattle.transfer_matrix.specs.Job.{Job}
use Rattle.transfer_matrix.specs.Rounded.{ieee}
use Rattle.transfer_matrix.specs.Sweep as S
use Rattle.exactness.specs.Exact.{rational, at_values}
use Rattle.exactness.specs.Textbook.{textbook}
use Rattle.accuracy.proofs.Apart.{Apart}
use Rattle.refusals.specs.AcceptedJob.{AcceptedCorrelations}
use Rattle.refusals.proofs.Laws.AcceptedJob.{accepted_correlations, passes-positive}
use Rattle.refusals.specs.Edges.{kept, kept_early}
use Rattle.refusals.specs.Key.{Key}
use Rattle.refusals.proofs.Laws.First.{passed-at}
use Rattle.refusals.specs.Refusal.{of_correlations}
use Rattle.refusals.specs.Request.{correlation_request}
use Rattle.pair_correlations.specs.Sound.{unsound}
use Rattle.entry_correlations.specs.Correlations.{manner_of, job_given, Correlated}
use Rattle.entry_correlations.specs.declared.Manner.{Manner}
use Rattle.error_bound.specs.Bound.{most_bits, error_bound_of}
use Rattle.error_bound.proofs.Laws.Margin.{bits-few, near-one-all}
use Rattle.demands.proofs.Laws.Lists.{settled_at}
use Rattle.demands.proofs.Laws.Given.{checked-given}
use Rattle.demands.proofs.OneJob.{Z-positive, exact, bounded}
use Rattle.demands.specs.OneJob.{InUnit, Exact, Bounded, Sound}
use Rattle.demands.proofs.Mirror.{mirrored}
use Rattle.demands.specs.Mirror.{Mirrored}
use Rattle.demands.proofs.Accurate.{near_of, bound_known, made-close, close-within}

module _ {n floor : ℕ} {a b : List ℕ} {m : List Float} {us vs : List ℕ} {factors : List Float} {manner : Manner} {arrangement : Arrangement} {caller : Caller} {r : ℕ}
    {results results' work work' : List Float} (call : Correlated n floor a b m us vs factors manner arrangement caller r results results' work work') (accepted : r ≡ 0) where
  abbrev job : Job Float
  job = job_given n floor a b m factors manner

  facts : AcceptedCorrelations (arrangement_of arrangement) n floor a b m us vs factors (length results) (length work)
  facts = accepted_correlations caller (arrangement_of arrangement) n floor a b m us vs factors (length results) (length work) (unsound job us vs) r (sym call.answer) (inl accepted)

  all_sound : unsound job us vs ≡ false
  all_sound =
      passed-at of_correlations (correlation_request caller (arrangement_of arrangement) n floor a b m us vs factors (length results) (length work) (unsound job us vs)) (sym call.answer ∙ accepted) Key.partition_sums refl

  pub result-sound : Sound job us vs
  result-sound =
      let f = facts.job in
      record {
        checked = checked-given n floor a b m us vs factors (length results) (length work) manner facts;
        sums = all_sound;
        apart = f.ends-apart;
        first-inside = λ i l. omega (arith, f.first-inside i l);
        second-inside = λ i l. omega (arith, f.second-inside i l);
      }

  settled-result : (j : ℕ) → j < length us → get_or results' j nan ≡ S.answer ieee job (get_or us j 0) (get_or vs j 0)
  unfolding S.answers
  settled-result = settled_at r (λ i. S.answer ieee job (get_or us i 0) (get_or vs i 0)) (length us) results results' accepted call.answers

  -- Exact: result i is the definition's answer for pair i, rounded,
  pub result-is : (i : ℕ) → i < length us → get_or results' i nan ≡ S.answer ieee job (get_or us i 0) (get_or vs i 0)
  result-is = settled-result

  -- and that same definition without rounding, at the numbers that the factors stand for, is the textbook ratio.
  pub result-exact : Exact job us vs
  result-exact = exact result-sound

  -- Bounded: each stored correlation lies in [-1, 1],
  pub result-bounded : (i : ℕ) → i < length us → InUnit (get_or results' i nan)
  result-bounded i l = rw (settled-result i l) ((bounded result-sound).correlation i l)

  -- and no entry of a propagated vector exceeds the forward vector's in size, nor one of the half that is stored.
  pub result-within : Bounded job us vs
  result-within = bounded result-sound

  -- Mirrored: forward and backward vectors are the same with every spin flipped, propagated ones opposite.
  pub result-mirrored : Mirrored job us vs
  result-mirrored = mirrored result-sound

  -- Accurate: where `error_bound` answers a bound for the same graph, floor and factors, each stored result is within it of the textbook ratio.
  pub result-accurate : (bound : Float) → error_bound_of n floor a b m [] factors false ≡ Ok (Some bound) → (i : ℕ) → i < length us
      → Apart (value (get_or results' i nan)) (textbook rational (at_values job) (get_or us i 0) (get_or vs i 0)) (value bound)
  result-accurate bound answer i l =
      let f = facts.lists in
      let w = job.window in
      let near = near_of n floor a b m in
      let told = bound_known n floor a b m [] factors false bound answer in
      let edges : length (kept_early a b m) ≡ length (kept a b m) = length-map (kept a b m) (λ x. x.early) in
      let positive-at : (e : ℕ) → e < length (kept a b m) → T (positive (get_or factors e nan)) = λ e k. passes-positive (get_or factors e nan) (f.factors_pass e k) in
      rw (settled-result i l, told.1)
      (close-within n floor a b m us vs (manner_of manner) facts.job (λ e. get_or factors e nan) positive-at
      (made-close n floor a b m us vs (manner_of manner) facts.job (λ e. get_or factors e nan) positive-at
      (λ e k. near-one-all (most_bits w near) (bits-few w near) factors told.0 e (omega (arith, f.factor-count)) (positive-at e (omega arith)))
      i l (Z-positive result-sound i l)))
