-- The sweeps of the definition are sweeps with their own scales, which are above zero, and their answer is the one read off them.
use Rattle.std.specs.Prelude.{◌≡◌, cond, List, ltb}
use Rattle.std.proofs.Math.Path.{refl, ap, ap₂}
use Rattle.std.proofs.Common.{◌∙◌}
use Prim.Native.Nat.{ℕ, zero, suc, ◌+◌, ◌-◌, ◌^◌, ◌<◌, min, max}
use native.Mathlib.Omega.{arith}
use Rattle.transfer_matrix.specs.Arithmetic.{Ops, signed_sum}
use Rattle.list_laws.specs.Bits.{bit}
use Rattle.transfer_matrix.specs.Job.{Job, step_of}
use Rattle.transfer_matrix.specs.Checked.{Checked}
use Rattle.transfer_matrix.specs.Sweep.{at, start, forward_step, forward, scale, backward_step, after_steps, backward, propagated}
use Rattle.transfer_matrix.specs.Sweep.{Z, direct_n, propagated_n, N, answer}
use Rattle.exactness.proofs.Laws.Algebra.{Laws, Pos}
use Rattle.exactness.proofs.AnyScales.{Scaled, propagated_of, ZOf, direct_nof, propagated_nof, NOf, answer_of}
use Rattle.exactness.proofs.Laws.Positive as P

module _ (O : Ops) (J : Job O.K) where
  open O use {K, 𝟙, ◌⊗◌, ◌⊘◌}

  infixl 70 ◌⊗◌
  infixl 70 ◌⊘◌
  -- ---- the answer, read off the sweeps' own vectors

  abbrev own : ℕ → ℕ → List K
  own = propagated_of O J (forward O J) (scale O J) (backward O J)

  pub propagated-same : (u i : ℕ) → propagated O J u i ≡ own u i
  unfolding propagated propagated_of
  propagated-same u zero = refl
  propagated-same u (suc i) = ap (forward_step O J.window (step_of J (u + suc i)) (scale O J (u + suc i))) (propagated-same u i)

  pub Z-same : (v : ℕ) → Z O J v ≡ ZOf O J (forward O J) (scale O J) (backward O J) v
  unfolding Z ZOf
  Z-same v = refl

  direct-same : (u v : ℕ) → direct_n O J u v ≡ direct_nof O J (forward O J) (scale O J) (backward O J) u v
  unfolding direct_n direct_nof
  direct-same u v = refl

  far-same : (u v : ℕ) → propagated_n O J u v ≡ propagated_nof O J (forward O J) (scale O J) (backward O J) u v
  unfolding propagated_n propagated_nof
  far-same u v =
      ap (λ g. signed_sum O (2 ^ J.window) (λ j. bit 0 j) (λ j. at O g j ⊗ at O (backward O J v) j)) (propagated-same u (v - u))

  pub N-same : (u v : ℕ) → N O J u v ≡ NOf O J (forward O J) (scale O J) (backward O J) u v
  unfolding N NOf
  N-same u v = ap₂ (cond (ltb (v - u) J.window)) (direct-same u v) (far-same u v)

  pub answer-same : (u v : ℕ) → answer O J u v ≡ answer_of O J (forward O J) (scale O J) (backward O J) u v
  unfolding answer answer_of
  answer-same u v = ap₂ ◌⊘◌ (N-same (min u v) (max u v)) (Z-same (max u v))

  -- ---- the backward sweep

  pub backward_scale : ℕ → K
  backward_scale t = 𝟙 ⊘ (after_steps O J (J.last - t)).1

  pub final : backward O J J.last ≡ start O J.window
  unfolding backward
  final = let e : J.last - J.last ≡ 0 = omega arith in ap (λ i. (after_steps O J i).0) e

  pub earlier : (t : ℕ) → t < J.last
      → backward O J t ≡ backward_step O J.window (step_of J (suc t)) (backward_scale (suc t)) (backward O J (suc t))
  unfolding backward backward_scale
  earlier t l =
      let e : J.last - t ≡ suc (J.last - suc t) = omega arith in
      let e' : J.last - (J.last - suc t) ≡ suc t = omega arith in
      ap (λ i. (after_steps O J i).0) e
      ∙ one (J.last - suc t)
      ∙ ap (λ k. backward_step O J.window (step_of J k) (backward_scale (suc t)) (backward O J (suc t))) e'
    where
      one : (i : ℕ) → (after_steps O J (suc i)).0
          ≡ backward_step O J.window (step_of J (J.last - i)) (𝟙 ⊘ (after_steps O J i).1) (after_steps O J i).0
      one i = refl

  -- ---- both sweeps

  module _ (LW : Laws O) (ok : Checked (Pos O) J) where
    open LW use {pos_inv}

    pub backward-positive : (t : ℕ) → Pos O (backward_scale t)
    unfolding backward_scale
    backward-positive t = pos_inv _ (P.after_pos O LW J ok (J.last - t)).kept

    pub sweeps : Scaled O J (forward O J) (scale O J) (backward O J) backward_scale
    unfolding forward scale
    sweeps = record {
      first = refl;
      later = λ t. refl;
      final = final;
      earlier = earlier;
      forward-positive = λ t. pos_inv _ (P.before_pos O LW J ok t).kept;
      backward-positive = backward-positive;
    }
