-- The rows of a chunk are what `sample`, or its house twin, leaves over that chunk alone; and each chunk's sums keep what 26 asks of them.
use Rattle.std.specs.Prelude.{◌≡◌, refl, Bool, true, false, ◌&&◌, List, ℕ, ◌+◌, ◌-◌, ◌*◌, ◌≤◌, ◌<◌, T, Float, length}
use Rattle.std.proofs.Common.{sym, ap, ◌∙◌, subst, one-mul, arith, eq-eqb}
use Rattle.std.specs.Float.{nan, binary64}
use Rattle.std.specs.Float.Ieee.{of_bits, of_int, le, fits}
use Rattle.std.specs.Float.Ieee.Bits.{is_true}
use Rattle.std.specs.Float.Ieee.Fits.{and_i}
use Rattle.limits.specs.declared.Caller.TheVariants.{Desk}
use Rattle.list_laws.specs.Front.{over}
use Rattle.list_laws.specs.Tabulate.{tabulate}
use Rattle.list_laws.proofs.Laws.Tabulate.{tabulate-length}
use Rattle.rounding.specs.Powers.{Ordered}
use Rattle.rounding.specs.Laws.Sign.{not_minus}
use Rattle.transfer_matrix.specs.Rounded.{ieee}
use Rattle.transfer_matrix.specs.Totals.{square, fourth, sampled_count}
use Rattle.std.specs.declared.result.Result.TheVariants.{Ok}
use Rattle.refusals.specs.AcceptedTotals.{misfits}
use Rattle.plan_layout.specs.declared.Arrangement.{Arrangement}
use Rattle.job_run.specs.Zeros.{zeros}
use Rattle.entry_correlations.specs.Correlations.{settled, cleared}
use Rattle.entry_correlations.specs.declared.Manner.{Manner}
use Rattle.estimate.specs.Estimates.{+0·0, number, is_in_order}
use Rattle.totals_call.specs.Given.{Given, end, sums}
use Rattle.totals_call.specs.Calls.{Totalled, totals_of_drawn, Sampled, HouseSampled, house_given}
use Rattle.run_record.specs.Reading.{is_minus_zero}
use Rattle.record_call.specs.Calls.{lent_given, Recorded, HouseRecorded, sums_for}
use Rattle.demands.proofs.Sampling.{sampling_bounded}
use Rattle.demands_house.proofs.Accepted.{house_sampling_bounded}
use Rattle.demands_recordings.specs.Written.{part-accepted, roomy}
use Rattle.demands_recordings.proofs.Sums.{chunk_is, drawn}
use Rattle.demands_recordings.proofs.Laws.Plus.{plain_bits}
use Rattle.demands_recordings.proofs.Laws.Squares.{Even, even_square, even_fourth, sum_plain, sum_fits}

-- both lists of the length that is wanted
fitting : (wanted squares fourths : ℕ) → squares ≡ wanted → fourths ≡ wanted → misfits wanted squares fourths ≡ false
fitting wanted squares fourths p q = rw (eq-eqb squares wanted p, eq-eqb fourths wanted q)

-- what a call for totals leaves that none of its checks refuses
left_by : {refused count : ℕ} {squared fourthed : List Float} {end : ℕ} {squares fourths work : List Float} → refused ≡ 0
    → Totalled refused count squared fourthed end (Ok count) squares squared fourths fourthed work (over (zeros end) work)
unfolding settled cleared
left_by e = rw e (record { answer = (refl, refl); squares_are = refl; fourths_are = refl; memory = refl })

-- Sums of one chunk that 26 lets pass: doubles, 0 ≤ fourth powers ≤ squares ≤ samples, and neither is -0.0.
pub record PlainSums (samples : ℕ) (squares fourths : Float) : Type 0 where
  pub double-squares : T (fits binary64 squares)
  pub double-fourths : T (fits binary64 fourths)
  pub ordered : is_in_order (number samples) squares fourths ≡ true
  pub plain_squares : is_minus_zero squares ≡ false
  pub plain_fourths : is_minus_zero fourths ≡ false

by_order : (samples : ℕ) (squares fourths : Float) → Ordered binary64 fourths squares samples → is_in_order (number samples) squares fourths ≡ true
unfolding of_int of_bits
by_order samples squares fourths o =
    let A : Bool = le +0·0 fourths in
    let B : Bool = le fourths squares in
    let C : Bool = le squares (number samples) in
    is_true (A && B && C) (and_i (A && B) C (and_i A B o.nonnegative o.ascending) o.counted)

module _ (g : Given) (seed from to samples : ℕ) (c k : ℕ) (l : k < sums g) where
  fits-at : (power : Float → Float) → Even power → T (fits binary64 (sums_for g seed from to samples power c k))
  fits-at power even = subst (λ (x : Float). T (fits binary64 x)) (sym (chunk_is g seed from to samples power even k l c)) (sum_fits power even (drawn g seed from to samples k (from + c)) samples)

  plain_at : (power : Float → Float) → Even power → T (not_minus (sums_for g seed from to samples power c k))
  plain_at power even = subst (λ (x : Float). T (not_minus x)) (sym (chunk_is g seed from to samples power even k l c)) (sum_plain power even (drawn g seed from to samples k (from + c)) samples)

  plain_sums : Ordered binary64 (sums_for g seed from to samples (fourth ieee) c k) (sums_for g seed from to samples (square ieee) c k) samples
      → PlainSums samples (sums_for g seed from to samples (square ieee) c k) (sums_for g seed from to samples (fourth ieee) c k)
  plain_sums o = record {
    double-squares = fits-at (square ieee) even_square;
    double-fourths = fits-at (fourth ieee) even_fourth;
    ordered = by_order samples _ _ o;
    plain_squares = plain_bits _ (fits-at (square ieee) even_square) (plain_at (square ieee) even_square);
    plain_fourths = plain_bits _ (fits-at (fourth ieee) even_fourth) (plain_at (fourth ieee) even_fourth);
  }

one-count : (i samples : ℕ) → sampled_count i (i + 1) samples ≡ samples
one-count i samples = let e : i + 1 - i ≡ 1 = omega arith in ap (λ (x : ℕ). x * samples) e ∙ one-mul samples

-- ---- `sample_record`

module _ {n floor : ℕ} {a b : List ℕ} {m : List Float} {us vs : List ℕ} {betas factors : List Float} {manner : Manner} {arrangement : Arrangement} {seed from to samples : ℕ}
    {bytes bytes' : List ℕ} {work work' : List Float} (call : Recorded n floor a b m us vs betas factors manner arrangement seed from to samples 0 bytes bytes' work work') where
  abbrev given : Given
  given = lent_given n floor a b m us vs betas factors manner arrangement

  -- `sample` over chunks of the run, with lists and memory that fit, is accepted and leaves their totals:
  pub run_sampled : (i e : ℕ) → from ≤ i → i ≤ e → e ≤ to → (squares fourths memory : List Float) → length squares ≡ sums given → length fourths ≡ sums given → end given ≤ length memory
      → Sampled n floor a b m us vs betas factors manner arrangement Desk seed i e samples (Ok (sampled_count i e samples)) squares (totals_of_drawn given seed i e samples (square ieee))
      fourths (totals_of_drawn given seed i e samples (fourth ieee)) memory (over (zeros (end given)) memory)
  run_sampled i e u v w squares fourths memory p q r =
      record { call = rw (fitting (sums given) (length squares) (length fourths) p q) (left_by (part-accepted call i e u v w (length memory) r)) }

  -- of one chunk, the sums of its rows. In each, 0 ≤ fourth powers ≤ squares ≤ samples, and no -0.0: 26 lets them pass.
  pub chunk_ordered : (c k : ℕ) → c < to - from → k < sums given
      → Ordered binary64 (sums_for given seed from to samples (fourth ieee) c k) (sums_for given seed from to samples (square ieee) c k) samples
  chunk_ordered c k h l =
      let any : List Float = tabulate (λ _. nan) (sums given) in
      let long : length any ≡ sums given = tabulate-length (λ _. nan) (sums given) in
      subst (λ (x : ℕ). Ordered binary64 (sums_for given seed from to samples (fourth ieee) c k) (sums_for given seed from to samples (square ieee) c k) x) (one-count (from + c) samples)
      (sampling_bounded (run_sampled (from + c) (from + c + 1) (omega arith) (omega arith) (omega arith) any any work long long (roomy call)) k l)

  pub chunk_plain : (c k : ℕ) → c < to - from → k < sums given
      → PlainSums samples (sums_for given seed from to samples (square ieee) c k) (sums_for given seed from to samples (fourth ieee) c k)
  chunk_plain c k h l = plain_sums given seed from to samples c k l (chunk_ordered c k h l)

-- ---- `house_sample_record`

module _ {n floor : ℕ} {a b : List ℕ} {m : List Float} {us vs : List ℕ} {betas : List Float} {manner : Manner} {arrangement : Arrangement} {seed from to samples : ℕ}
    {bytes bytes' : List ℕ} {work work' : List Float} (call : HouseRecorded n floor a b m us vs betas manner arrangement seed from to samples 0 bytes bytes' work work') where
  abbrev housed : Given
  housed = house_given n floor a b m us vs betas manner arrangement Desk

  pub house_run_sampled : (i e : ℕ) → from ≤ i → i ≤ e → e ≤ to → (squares fourths memory : List Float) → length squares ≡ sums housed → length fourths ≡ sums housed → end housed ≤ length memory
      → HouseSampled n floor a b m us vs betas manner arrangement Desk seed i e samples (Ok (sampled_count i e samples)) squares (totals_of_drawn housed seed i e samples (square ieee))
      fourths (totals_of_drawn housed seed i e samples (fourth ieee)) memory (over (zeros (end housed)) memory)
  house_run_sampled i e u v w squares fourths memory p q r =
      record { call = rw (fitting (sums housed) (length squares) (length fourths) p q) (left_by (part-accepted call i e u v w (length memory) r)) }

  pub house_chunk_ordered : (c k : ℕ) → c < to - from → k < sums housed
      → Ordered binary64 (sums_for housed seed from to samples (fourth ieee) c k) (sums_for housed seed from to samples (square ieee) c k) samples
  house_chunk_ordered c k h l =
      let any : List Float = tabulate (λ _. nan) (sums housed) in
      let long : length any ≡ sums housed = tabulate-length (λ _. nan) (sums housed) in
      subst (λ (x : ℕ). Ordered binary64 (sums_for housed seed from to samples (fourth ieee) c k) (sums_for housed seed from to samples (square ieee) c k) x) (one-count (from + c) samples)
      (house_sampling_bounded (house_run_sampled (from + c) (from + c + 1) (omega arith) (omega arith) (omega arith) any any work long long (roomy call)) k l)

  pub house_chunk_plain : (c k : ℕ) → c < to - from → k < sums housed
      → PlainSums samples (sums_for housed seed from to samples (square ieee) c k) (sums_for housed seed from to samples (fourth ieee) c k)
  house_chunk_plain c k h l = plain_sums housed seed from to samples c k l (house_chunk_ordered c k h l)
