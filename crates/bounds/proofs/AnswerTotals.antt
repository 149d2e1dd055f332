-- Totals of one pair's answers are bounded.
use Rattle.std.specs.Prelude.{ℕ, ◌^◌, ◌≤◌, ◌<◌, max, T, Float}
use Rattle.std.specs.Float.Ieee.{binary64}
use Rattle.std.specs.Float.Ieee.Positive.{positive}
use Rattle.rounding.proofs.Laws.Sums.{Each}
use Rattle.rounding.specs.Powers.{Ordered}
use Rattle.transfer_matrix.specs.Job.{Job}
use Rattle.transfer_matrix.specs.Checked.{Checked}
use Rattle.transfer_matrix.specs.Rounded.{ieee}
use Rattle.transfer_matrix.specs.Sweep.{Z, answer}
use Rattle.transfer_matrix.specs.Totals.{enumerated_count, sampled_count, square, fourth, enumerated, sampled}
use Rattle.bounds.proofs.Bounds.{correlation-under, enumerated-bounded, sampled-bounded}

-- ---- totals of one pair's answers: J gives the job of each configuration
pub record Answerable (J : Job Float) (u v : ℕ) : Type 0 where
  pub checked : Checked (λ x. T (positive x)) J
  pub passed : T (positive (Z ieee J (max u v)))

pub enumerated-answers-bounded : (free : ℕ) (J : ℕ → Job Float) (u v : ℕ) → free ≤ 53 → Each (2 ^ free) (λ x. Answerable (J x) u v)
    → Ordered binary64 (enumerated ieee (fourth ieee) free (λ x. answer ieee (J x) u v))
    (enumerated ieee (square ieee) free (λ x. answer ieee (J x) u v)) (enumerated_count free)
enumerated-answers-bounded free J u v l h =
    enumerated-bounded free (λ x. answer ieee (J x) u v) l (λ x b. let a = h x b in correlation-under (J x) a.checked u v a.passed)

pub sampled-answers-bounded : (from to samples : ℕ) (J : ℕ → ℕ → Job Float) (u v : ℕ) → sampled_count from to samples ≤ 2 ^ 53
    → ((chunk sample : ℕ) → from ≤ chunk → chunk < to → sample < samples → Answerable (J chunk sample) u v)
    → Ordered binary64 (sampled ieee (fourth ieee) from to samples (λ i j. answer ieee (J i j) u v))
    (sampled ieee (square ieee) from to samples (λ i j. answer ieee (J i j) u v)) (sampled_count from to samples)
sampled-answers-bounded from to samples J u v l h =
    sampled-bounded from to samples (λ i j. answer ieee (J i j) u v) l
    (λ i j a b s. let k = h i j a b s in correlation-under (J i j) k.checked u v k.passed)
