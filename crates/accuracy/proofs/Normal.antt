-- What the theorem asks of the sweeps at a vertex: that they stay in the normal range, and that Z outweighs what underflows in its terms.
use Rattle.std.specs.Prelude.{ℕ, suc, ◌+◌, ◌*◌, ◌-◌, ◌^◌, ◌≤◌, T, length, Float}
use Rattle.std.specs.Float.Ieee.Positive.{positive}
use Rattle.fraction.proofs.Fraction.{ℚ, oneℚ}
use Rattle.transfer_matrix.specs.Checked.{Checked}
use Rattle.transfer_matrix.specs.Job.{Job, step_of}
use Rattle.exactness.proofs.AnyScales.{ZOf, NOf}
use Rattle.exactness.specs.Exact.{rational, at_values}
use Rattle.accuracy.specs.Ring.{NonNeg, nat}
use Rattle.accuracy.proofs.Laws.Ring.{◌⋆◌, ◌≼◌}
use Rattle.accuracy.specs.Rounds.{ε}
use Rattle.accuracy.specs.Laws.Rounds.{smallest}
use Rattle.accuracy.proofs.Laws.Factors.{ModerateStep}
use Rattle.accuracy.proofs.Laws.ExactSweeps.{ahead, exact_forward, exact_backward}
use Rattle.accuracy.proofs.Laws.Sweeps.{ClearAhead, ClearBack}

-- The exact Z and N of a pair, at the rounded sweeps' scales.
abbrev pub exact_z : Job Float → ℕ → ℚ
exact_z J v = ZOf rational (at_values J) (exact_forward J) (ahead J) (exact_backward J) v

abbrev pub exact_n : Job Float → ℕ → ℕ → ℚ
exact_n J u v = NOf rational (at_values J) (exact_forward J) (ahead J) (exact_backward J) u v

-- The roundings on the way to a Z or an N, c of them a step, and one more for what underflows in their terms.
abbrev pub roundings : Job Float → ℕ → ℕ
roundings J c = suc (suc (suc J.last * c) + 2 ^ J.window)

-- At the vertex v both sweeps stay in the normal range, and Z outweighs what underflows in its terms.
pub record Normal (J : Job Float) (ok : Checked (λ x. T (positive x)) J) (β : ℚ) (c v : ℕ) : Type 0 where
  pub β_nn : NonNeg β
  pub β-one : β ≼ oneℚ
  pub moderate : (t : ℕ) → ModerateStep β (step_of J t)
  pub few : (t : ℕ) → length (step_of J t).others + 5 ≤ c
  pub clear-ahead : ClearAhead J β β_nn β-one ok.window moderate c few (suc v)
  pub clear-back : ClearBack J β β_nn β-one ok.window moderate c few (J.last - v)
  pub outweighs : nat (2 ^ J.window) ⋆ smallest ≼ ε ⋆ exact_z J v
