-- What demands 2 and 3 say of one job and its pairs, a record each; and that a job has both if it passes the checks and every pair's Z is finite
-- and above zero.
use Rattle.std.specs.Prelude.{List, ℕ, ◌<◌, T, Float, length, get_or}
use Rattle.std.proofs.Math.Bool.{not}
use Rattle.std.proofs.Common.{arith}
use Rattle.std.specs.Float.Ieee.{neg, le}
use Rattle.std.specs.Float.Ieee.Positive.{positive}
use Rattle.std.proofs.lemmas.Bool.{not-false}
use Rattle.list_laws.proofs.Laws.Search.{none-at}
use Rattle.rounding.specs.Under.{unit}
use Rattle.transfer_matrix.specs.Job.{Job}
use Rattle.transfer_matrix.specs.Room.{earlier, later}
use Rattle.transfer_matrix.specs.Rounded.{ieee}
use Rattle.transfer_matrix.specs.Sweep as S
use Rattle.exactness.proofs.Laws.Exact.{exact_answer_of_doubles, literal_answer_of_doubles, partition_sum_of_doubles}
use Rattle.bounds.proofs.Bounds.{correlation-bounded, propagated-bounded, literal-correlation-bounded, literal-propagated-bounded}
use Rattle.bounds.proofs.AnswerTotals.{Answerable}
use Rattle.pair_correlations.specs.Sound.{soundly, unsound}
use Rattle.pair_correlations.proofs.Laws.Sound.{sound-positive}
use Rattle.demands.proofs.Laws.Halves.{half-bounded}
use Rattle.demands.specs.OneJob.{InUnit, Exact, Bounded, Sound}

module _ {J : Job Float} {us vs : List ℕ} (ok : Sound J us vs) where
  pub Z-positive : (i : ℕ) → i < length us → T (positive (S.Z ieee J (later us vs i)))
  unfolding unsound
  Z-positive i l = sound-positive _ (not-false _ (none-at (λ i. not (soundly (S.Z ieee J (later us vs i)))) (length us) i l ok.sums))

  -- what the bounds of totals ask of each configuration
  pub answerable : (i : ℕ) → i < length us → Answerable J (get_or us i 0) (get_or vs i 0)
  answerable i l = record { checked = ok.checked; passed = Z-positive i l }

  pub exact : Exact J us vs
  exact = record {
    ratio = λ i l. exact_answer_of_doubles J ok.checked (get_or us i 0) (get_or vs i 0) (ok.apart i l) (ok.first-inside i l) (ok.second-inside i l);
    divisor = partition_sum_of_doubles J ok.checked;
    literal-ratio = λ i l.
        literal_answer_of_doubles J ok.checked (get_or us i 0) (get_or vs i 0) (ok.apart i l) (ok.first-inside i l) (ok.second-inside i l);
  }

  in_unit : {x : Float} → T (le (neg unit) x) × T (le x unit) → InUnit x
  in_unit h = record { above = h.0; below = h.1 }

  pub bounded : Bounded J us vs
  bounded = record {
    correlation = λ i l. in_unit (correlation-bounded J ok.checked (get_or us i 0) (get_or vs i 0) (Z-positive i l));
    propagated = λ i l t j h k. propagated-bounded J ok.checked (earlier us vs i) (later us vs i) t j (Z-positive i l) (omega arith) (omega arith);
    half = λ i l t j h k g f odd even.
        half-bounded J ok.checked (earlier us vs i) (later us vs i) t j (Z-positive i l) (omega arith) (omega arith) g f odd even;
    literal-correlation = λ i l p. in_unit (literal-correlation-bounded J ok.checked (get_or us i 0) (get_or vs i 0) p);
    literal-propagated = λ i l p t j h k.
        literal-propagated-bounded J ok.checked (earlier us vs i) (later us vs i) t j p (omega arith) (omega arith);
  }
