-- In exact arithmetic the sweeps' answer is the textbook ratio: in either manner, for the ends of a pair in either order, in any window that
-- reaches every edge, and with any scales above zero. specs/Laws holds the proof, one idea a file.
use Rattle.std.specs.Prelude.{◌≡◌, List, ℕ, suc, ◌≤◌, ◌<◌, min, max}
use Rattle.std.proofs.Common.{◌∙◌, arith}
use Rattle.std.proofs.Math.Path.{ap₂}
use Rattle.std.proofs.Math.Decide.{dec_lt}
use Rattle.std.proofs.Math.Nat.{min-eq_left, min-eq_right, max-eq_left, max-eq_right}
use Rattle.transfer_matrix.specs.Arithmetic.{Ops}
use Rattle.transfer_matrix.specs.Job.{Job}
use Rattle.transfer_matrix.specs.Checked.{Checked}
use Rattle.transfer_matrix.specs.Sweep.{answer}
use Rattle.exactness.specs.Textbook.{partition_sum, textbook}
use Rattle.exactness.proofs.Laws.Settings as Settings
use Rattle.exactness.proofs.Laws.Positive as Positive
use Rattle.exactness.proofs.Laws.Pair as Pair
use Rattle.exactness.proofs.Laws.Own as Own
use Rattle.exactness.proofs.Laws.Algebra.{Laws, Pos}
use Rattle.exactness.proofs.AnyScales.{Scaled, NOf, ZOf, answer_of}

module _ (O : Ops) where
  open O use {K, ◌⊘◌}

  infixl 70 ◌⊘◌
  -- The answer read off any vectors that follow the job's steps, with any scales above zero.
  pub exactly-scaled : (L : Laws O) (J : Job K) → Checked (Pos O) J
      → {F : ℕ → List K} {f : ℕ → K} {B : ℕ → List K} {b : ℕ → K} → Scaled O J F f B b
      → (u v : ℕ) → (u ≡ v → ⊥) → u ≤ J.last → v ≤ J.last → answer_of O J F f B u v ≡ textbook O J u v
  unfolding answer_of
  exactly-scaled L J ok {F} {f} {B} {b} sweeps u v differ k l = go (dec_lt u v)
    where
      go : Dec (u < v) → NOf O J F f B (min u v) (max u v) ⊘ ZOf O J F f B (max u v) ≡ textbook O J u v
      go (yes h) =
          ap₂ (λ x y. NOf O J F f B x y ⊘ ZOf O J F f B y) (min-eq_left (omega arith)) (max-eq_right (omega arith))
          ∙ Pair.ordered O L J ok F f B b sweeps u v h l
      go (no h) =
          let h' : v < u = omega (arith, differ) in
          ap₂ (λ x y. NOf O J F f B x y ⊘ ZOf O J F f B y) (min-eq_right (omega arith)) (max-eq_left (omega arith))
          ∙ Pair.ordered O L J ok F f B b sweeps v u h' k
          ∙ Pair.textbook_comm O L J v u

  -- The theorem: the answer of the sweeps themselves.
  pub exactly : (L : Laws O) (J : Job K) → Checked (Pos O) J
      → (u v : ℕ) → (u ≡ v → ⊥) → u ≤ J.last → v ≤ J.last → answer O J u v ≡ textbook O J u v
  exactly L J ok u v differ k l = Own.answer-same O J u v ∙ exactly-scaled L J ok (Own.sweeps O J L ok) u v differ k l

  -- The sum of weights is above zero, so the ratio is one of numbers.
  pub partition_sum_positive : (L : Laws O) (J : Job K) → Checked (Pos O) J → Pos O (partition_sum O J)
  partition_sum_positive L J ok = Settings.over_pos O L (suc J.last) _ (Positive.weight_pos O L J ok J.edges ok.edges)
