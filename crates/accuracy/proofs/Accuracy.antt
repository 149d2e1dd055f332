-- The theorem with a condition on the job alone: no factor so far from one that a window of them could leave the normal range.
use Rattle.std.specs.Prelude.{◌≡◌, ℕ, ◌+◌, ◌*◌, ◌^◌, ◌≤◌, max, T, length, Float}
use Rattle.std.proofs.Common.{arith}
use Rattle.std.specs.Float.Ieee.Positive.{positive}
use Rattle.fraction.proofs.Fraction.{ℚ, oneℚ, Posℚ}
use Rattle.transfer_matrix.specs.Checked.{Checked}
use Rattle.transfer_matrix.specs.Job.{Job, step_of}
use Rattle.transfer_matrix.specs.Rounded.{ieee}
use Rattle.transfer_matrix.specs.Sweep.{Z, answer}
use Rattle.exactness.specs.Exact.{rational, at_values}
use Rattle.exactness.specs.Textbook.{textbook}
use Rattle.accuracy.proofs.Laws.Ring.{◌≼◌}
use Rattle.accuracy.proofs.Close.{Close}
use Rattle.accuracy.proofs.Laws.Factors.{EdgesModerate}
use Rattle.accuracy.proofs.Normal.{roundings}
use Rattle.accuracy.proofs.Laws.Room.{Room}
use Rattle.accuracy.proofs.Laws.Accuracy.{accurate, normal}

module _ (J : Job Float) (ok : Checked (λ x. T (positive x)) J) (β : ℚ) (β-pos : Posℚ β) (β-one : β ≼ oneℚ) (edges : EdgesModerate β J.edges)
    (p : ℕ) (few : (t : ℕ) → length (step_of J t).others ≤ p) where
  -- The theorem: every answered correlation is the textbook's but for what 2 K + 1 roundings can do, K being those on the way to Z or N.
  pub accurately : Room β p J.window → (u v : ℕ) → (u ≡ v → ⊥) → u ≤ J.last → v ≤ J.last → T (positive (Z ieee J (max u v))) → roundings J (p + 5) ≤ 2 ^ 26
      → Close (2 * roundings J (p + 5) + 1) (answer ieee J u v) (textbook rational (at_values J) u v) oneℚ
  accurately room u v differ inU inV sound short =
      let l : max u v ≤ J.last = omega arith in
      accurate J ok β (p + 5) u v differ inU inV sound (normal J ok β β-pos β-one edges p few room (max u v) l sound short)
