-- Sweeps with any scales: vectors that follow the steps of a job, and the answer read off them as Sweep reads it off its own.
use Rattle.std.specs.Prelude.{◌≡◌, cond, not, List, ℕ, zero, suc, ◌+◌, ◌-◌, ◌^◌, ◌<◌, min, max, ltb}
use Rattle.std.specs.Bool.{beq}
use Rattle.transfer_matrix.specs.Arithmetic.{Ops, sum, signed_sum}
use Rattle.list_laws.specs.Bits.{bit}
use Rattle.transfer_matrix.specs.Job.{Job, step_of}
use Rattle.transfer_matrix.specs.Sweep.{at, start, forward_step, backward_step, alternate}
use Rattle.exactness.proofs.Laws.Algebra.{Pos}

module _ (O : Ops) (J : Job O.K) where
  open O use {K, ◌⊗◌, ◌⊘◌}

  infixl 70 ◌⊗◌
  infixl 70 ◌⊘◌
  -- F t and B t are forward and backward vectors at vertex t; the forward step at t takes the scale f t, the backward step b t.
  pub record Scaled (F : ℕ → List K) (f : ℕ → K) (B : ℕ → List K) (b : ℕ → K) : Type 0 where
    pub first : F 0 ≡ forward_step O J.window (step_of J 0) (f 0) (start O J.window)
    pub later : (t : ℕ) → F (suc t) ≡ forward_step O J.window (step_of J (suc t)) (f (suc t)) (F t)
    pub final : B J.last ≡ start O J.window
    pub earlier : (t : ℕ) → t < J.last → B t ≡ backward_step O J.window (step_of J (suc t)) (b (suc t)) (B (suc t))
    pub forward-positive : (t : ℕ) → Pos O (f t)
    pub backward-positive : (t : ℕ) → Pos O (b t)

  module _ (F : ℕ → List K) (f : ℕ → K) (B : ℕ → List K) where
    unfoldable pub propagated_of : ℕ → ℕ → List K
    propagated_of u zero = alternate O J.window (F u)
    propagated_of u (suc i) = forward_step O J.window (step_of J (u + suc i)) (f (u + suc i)) (propagated_of u i)

    unfoldable pub ZOf : ℕ → K
    ZOf v = sum O (2 ^ J.window) (λ j. at O (F v) j ⊗ at O (B v) j)

    unfoldable pub direct_nof : ℕ → ℕ → K
    direct_nof u v =
        signed_sum O (2 ^ J.window) (λ j. not (beq (bit 0 j) (bit (v - u) j))) (λ j. at O (F v) j ⊗ at O (B v) j)

    unfoldable pub propagated_nof : ℕ → ℕ → K
    propagated_nof u v = signed_sum O (2 ^ J.window) (λ j. bit 0 j) (λ j. at O (propagated_of u (v - u)) j ⊗ at O (B v) j)

    unfoldable pub NOf : ℕ → ℕ → K
    NOf u v = cond (ltb (v - u) J.window) (direct_nof u v) (propagated_nof u v)

    unfoldable pub answer_of : ℕ → ℕ → K
    answer_of u v = NOf (min u v) (max u v) ⊘ ZOf (max u v)
