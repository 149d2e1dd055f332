-- What the theorem of accuracy rests on: an answer is close where the sweeps stay in the normal range, and a condition on the job keeps them there.
use Rattle.std.specs.Prelude.{◌≡◌, ℕ, suc, ◌+◌, ◌*◌, ◌-◌, ◌^◌, ◌≤◌, max, min, T, length, Float}
use Rattle.std.proofs.Common.{subst, mul-le-mul_right, arith}
use Rattle.std.specs.Float.Ieee.Positive.{positive, positive-finite}
use Rattle.std.specs.Float.Ieee.Scale.{finite}
use Rattle.fraction.proofs.Fraction.{ℚ, oneℚ, Posℚ}
use Rattle.transfer_matrix.specs.Checked.{Checked}
use Rattle.transfer_matrix.specs.Job.{Job, step_of}
use Rattle.transfer_matrix.specs.Rounded.{ieee}
use Rattle.transfer_matrix.specs.Sweep.{at, Z, answer, N}
use Rattle.exactness.proofs.AnyScales.{ZOf, answer_of}
use Rattle.exactness.specs.Exact.{rational, at_values}
use Rattle.exactness.proofs.Laws.Exact.{rational_laws, checked-values}
use Rattle.exactness.specs.Textbook.{textbook}
use Rattle.exactness.proofs.Exactness.{exactly-scaled}
use Rattle.bounds.proofs.Bounds.{numerator_under}
use Rattle.accuracy.specs.Ring.{NonNeg, nat}
use Rattle.accuracy.proofs.Laws.Ring.{◌⋆◌, ◌≼◌, nn_mul, nn_pos}
use Rattle.accuracy.specs.Rounds.{ε}
use Rattle.accuracy.specs.Laws.Rounds.{smallest}
use Rattle.accuracy.proofs.Close.{Close}
use Rattle.accuracy.proofs.Laws.Powers.{θ}
use Rattle.accuracy.proofs.Laws.Factors.{ModerateStep, moderate-steps, EdgesModerate, step-roundings}
use Rattle.accuracy.proofs.Laws.ExactSweeps.{after, before, exact_sweeps}
use Rattle.accuracy.proofs.Laws.Sums.{term_≼}
use Rattle.accuracy.proofs.Laws.Ratio.{ratio-close}
use Rattle.accuracy.proofs.Normal.{exact_z, exact_n, roundings, Normal}
use Rattle.accuracy.proofs.Laws.Pairs.{Z_pos, Z-close, N-close}
use Rattle.accuracy.proofs.Laws.Spread as S
use Rattle.accuracy.proofs.Laws.Levels.{Settled}
use Rattle.accuracy.proofs.Laws.Room.{Room}
use Rattle.accuracy.proofs.Laws.Room as R
use Rattle.accuracy.proofs.Laws.Ahead.{ahead-clear, ahead-settled}
use Rattle.accuracy.proofs.Laws.Back.{back-clear, back-settled}

-- Where the sweeps stay in the normal range, an answer is close to the textbook's correlation.
pub accurate : (J : Job Float) (ok : Checked (λ x. T (positive x)) J) (β : ℚ) (c u v : ℕ) → (u ≡ v → ⊥) → u ≤ J.last → v ≤ J.last
    → T (positive (Z ieee J (max u v))) → Normal J ok β c (max u v)
    → Close (2 * roundings J c + 1) (answer ieee J u v) (textbook rational (at_values J) u v) oneℚ
unfolding answer answer_of
accurate J ok β c u v differ inU inV sound h =
    let exact = exactly-scaled rational rational_laws (at_values J) (checked-values J ok) (exact_sweeps J) u v differ inU inV in
    subst (λ t. Close (2 * roundings J c + 1) (answer ieee J u v) t oneℚ) exact
    (ratio-close (roundings J c) (N ieee J (min u v) (max u v)) (Z ieee J (max u v)) (exact_n J (min u v) (max u v)) (exact_z J (max u v)) sound
    (numerator_under J ok (min u v) (max u v) (min_le_max u v)) (Z_pos J ok β c (max u v) (max-le inU inV) sound h)
    (N-close J ok β c (max u v) (max-le inU inV) sound h (min u v) (min_le_max u v)) (Z-close J ok β c (max u v) (max-le inU inV) sound h))
  where
    max-le : {a b c : ℕ} → a ≤ c → b ≤ c → max a b ≤ c
    max-le h k = omega arith

    min_le_max : (a b : ℕ) → min a b ≤ max a b
    min_le_max a b = omega arith

module _ (J : Job Float) (ok : Checked (λ x. T (positive x)) J) (β : ℚ) (β-pos : Posℚ β) (β-one : β ≼ oneℚ) (edges : EdgesModerate β J.edges)
    (p : ℕ) (few : (t : ℕ) → length (step_of J t).others ≤ p) where
  abbrev W : 1 ≤ J.window
  W = ok.window

  abbrev w : ℕ
  w = J.window

  abbrev n : ℕ
  n = 2 ^ J.window

  abbrev β_nn : NonNeg β
  β_nn = nn_pos β β-pos

  moderate : (t : ℕ) → ModerateStep β (step_of J t)
  moderate = moderate-steps β J edges

  abbrev c : ℕ
  c = p + 5

  module _ (room : Room β p w) (v : ℕ) (inside : v ≤ J.last) (sound : T (positive (Z ieee J v))) (short : roundings J c ≤ 2 ^ 26) where
    Z_fin : T (finite (Z ieee J v))
    Z_fin = positive-finite (Z ieee J v) sound

    few-roundings : (t : ℕ) → t ≤ suc J.last → t * c ≤ 2 ^ 26
    few-roundings t l = let m = mul-le-mul_right c l in far (t * c) (suc J.last * c) n (2 ^ 26) m short
      where
        far : (a b n k : ℕ) → a ≤ b → suc (suc b + n) ≤ k → a ≤ k
        far a b n k h l = omega arith

    aheads : Settled n (θ β p) (at rational (before J (suc v)))
    aheads = ahead-settled J ok β β_nn β-one moderate p few v Z_fin room β-pos (few-roundings (suc v) (omega arith))

    backs : Settled n (θ β p) (at rational (after J (J.last - v)))
    backs = back-settled J ok β β_nn β-one moderate p few v Z_fin room β-pos (few-roundings (J.last - v) (omega arith))

    -- Where both sweeps meet.
    outweighs : nat n ⋆ smallest ≼ ε ⋆ exact_z J v
    unfolding ZOf
    outweighs =
        let F_nn = S.before_nn J W β β_nn β-one moderate p few (suc v) in
        let B_nn = S.after_nn J W β β_nn β-one moderate p few (J.last - v) in
        R.outweighs w β β_nn β-one p room (at rational (before J (suc v))) (at rational (after J (J.last - v))) F_nn B_nn
        (S.after_spread J W β β_nn β-one moderate p few (J.last - v)) aheads backs (exact_z J v)
        (term_≼ n (λ j. at rational (before J (suc v)) j ⋆ at rational (after J (J.last - v)) j) (λ j l. nn_mul _ _ (F_nn j l) (B_nn j l)))

    pub normal : Normal J ok β c v
    normal = record {
      β_nn = β_nn;
      β-one = β-one;
      moderate = moderate;
      few = step-roundings J p few;
      clear-ahead = ahead-clear J ok β β_nn β-one moderate p few v Z_fin room β-pos (few-roundings (suc v) (omega arith));
      clear-back = back-clear J ok β β_nn β-one moderate p few v Z_fin room β-pos (few-roundings (J.last - v) (omega arith));
      outweighs = outweighs;
    }
