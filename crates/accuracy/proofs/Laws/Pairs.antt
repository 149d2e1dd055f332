-- The Z and the N of a pair, rounded and exact: they are close, their errors of the size of Z.
use Rattle.std.specs.Prelude.{◌≡◌, Bool, cond, List, ℕ, suc, ◌+◌, ◌*◌, ◌-◌, ◌^◌, ◌≤◌, ◌<◌, ltb, Float}
use Rattle.std.proofs.Common.{sym, ap, arith, pow_pos}
use Rattle.std.proofs.Math.Path.{subst}
use Rattle.std.proofs.Math.Bool.{true, false, not}
use Rattle.std.specs.Bool.{beq}
use Rattle.std.proofs.Math.Dec.{T}
use Rattle.std.specs.Float.Ieee.{binary64, mul}
use Rattle.std.specs.Float.Ieee.Scale.{finite}
use Rattle.std.specs.Float.Ieee.Positive.{positive, positive-finite}
use Rattle.rounding.proofs.Laws.Under.{mul_under}
use Rattle.rounding.proofs.Laws.Sums.{total-finite}
use Rattle.fraction.proofs.Fraction.{ℚ, oneℚ, Posℚ}
use Rattle.fraction.proofs.Laws.Fraction.{pos_mul}
use Rattle.list_laws.specs.Bits.{bit}
use Rattle.transfer_matrix.specs.Arithmetic.{sum}
use Rattle.transfer_matrix.specs.Checked.{Checked}
use Rattle.transfer_matrix.specs.Job.{Job}
use Rattle.transfer_matrix.specs.Rounded.{ieee}
use Rattle.transfer_matrix.specs.Sweep.{at, forward, backward, propagated, Z, N, direct_n, propagated_n}
use Rattle.exactness.proofs.AnyScales.{propagated_of, ZOf, direct_nof, propagated_nof, NOf}
use Rattle.exactness.specs.Exact.{rational, at_values}
use Rattle.bounds.proofs.Laws.Factors.{checked-not_minus}
use Rattle.bounds.proofs.Laws.Pairs.{sum_is}
use Rattle.bounds.proofs.Laws.Sweeps.{backward_beneath}
use Rattle.bounds.proofs.Bounds.{numerator_under, propagated-under, forward-finite, backward-finite}
use Rattle.accuracy.specs.Ring.{NonNeg, nat}
use Rattle.accuracy.proofs.Laws.Ring.{◌⊹◌, ◌⋆◌, ◌≼◌, ≼_refl, ≼_trans, ≼_add, ≼-times, ≼-more, ≼_pos, nn_mul, sorted, spread, +_comm}
use Rattle.accuracy.proofs.Within.{Within}
use Rattle.accuracy.proofs.Laws.Within.{within_nonneg, within_mono, within_mul, within_nn}
use Rattle.accuracy.specs.Rounds.{ε}
use Rattle.accuracy.proofs.Laws.Rounds.{ε_pos, ε_nn, smallest_nn, smallest_pos}
use Rattle.accuracy.specs.Laws.Rounds.{smallest}
use Rattle.accuracy.proofs.Close.{Close, gain}
use Rattle.accuracy.proofs.Laws.Close.{close_mul, gain_nn}
use Rattle.accuracy.proofs.Laws.ExactSweeps.{ahead, exact_forward, exact_backward}
use Rattle.accuracy.proofs.Laws.Sweeps.{Near, before-near, after-near, propagated-near}
use Rattle.accuracy.proofs.Laws.Sums.{sum-close, signed-close, sum_raised, sum_nn, signed-within}
use Rattle.accuracy.proofs.Laws.Sizes.{pos_cancel, above-nat}
use Rattle.accuracy.proofs.Normal.{exact_z, exact_n, Normal, roundings}

module _ (J : Job Float) (ok : Checked (λ x. T (positive x)) J) (β : ℚ) (c v : ℕ) (inside : v ≤ J.last) (sound : T (positive (Z ieee J v)))
    (normal : Normal J ok β c v) where
  abbrev k : ℕ
  k = suc (suc J.last * c)

  abbrev n : ℕ
  n = 2 ^ J.window

  abbrev F : ℕ → ℚ
  F j = at rational (exact_forward J v) j

  abbrev B : ℕ → ℚ
  B j = at rational (exact_backward J v) j

  abbrev mass : ℕ → ℚ
  mass j = F j ⋆ B j ⊹ smallest

  Z_fin : T (finite (Z ieee J v))
  Z_fin = positive-finite (Z ieee J v) sound

  ahead-near : Near J (suc v * c) (forward ieee J v) (exact_forward J v) (exact_forward J v)
  unfolding forward
  ahead-near =
      before-near J β normal.β_nn normal.β-one ok.window normal.moderate c normal.few (suc v) normal.clear-ahead
      (forward-finite J ok v v (omega arith) Z_fin)

  back-near : Near J ((J.last - v) * c) (backward ieee J v) (exact_backward J v) (exact_backward J v)
  unfolding backward
  back-near =
      after-near J β normal.β_nn normal.β-one ok.window normal.moderate c normal.few (J.last - v) normal.clear-back (backward-finite J ok v Z_fin)

  F_nn : (j : ℕ) → j < n → NonNeg (F j)
  F_nn j l = within_nn (ahead-near j l).size

  B_nn : (j : ℕ) → j < n → NonNeg (B j)
  B_nn j l = within_nn (back-near j l).size

  count : suc (suc v * c + (J.last - v) * c) ≡ k
  count = ap suc (let e : suc J.last ≡ suc v + (J.last - v) = omega arith in omega (arith, ap (λ (m : ℕ). m * c) e))

  -- A vector as close as the forward one, times the backward one.
  term_near : (x : List Float) (g : List ℚ) → Near J (suc v * c) x g (exact_forward J v) → (j : ℕ) → j < n
      → T (finite (mul binary64 (at ieee x j) (at ieee (backward ieee J v) j)))
      → Close k (mul binary64 (at ieee x j) (at ieee (backward ieee J v) j)) (at rational g j ⋆ B j) (mass j)
  term_near x g near j l f =
      let b = back-near j l in
      let m = nn_mul (F j) (B j) (F_nn j l) (B_nn j l) in
      subst (λ (i : ℕ). Close i (mul binary64 (at ieee x j) (at ieee (backward ieee J v) j)) (at rational g j ⋆ B j) (mass j)) count
      (close_mul (mass j) f (near j l) b (≼-more (F j ⋆ B j) smallest smallest_nn) (record { rest = F j ⋆ B j; is = +_comm _ _; nonneg = m }))

  terms-finite : (j : ℕ) → j < n → T (finite (mul binary64 (at ieee (forward ieee J v) j) (at ieee (backward ieee J v) j)))
  unfolding Z
  terms-finite j l =
      total-finite binary64 (λ i. mul binary64 (at ieee (forward ieee J v) i) (at ieee (backward ieee J v) i)) (2 ^ J.window)
      (subst (λ (x : Float). T (finite x)) (sum_is (2 ^ J.window) _) Z_fin) j l

  low : (j : ℕ) → j < n → smallest ≼ mass j
  low j l = record { rest = F j ⋆ B j; is = +_comm _ _; nonneg = nn_mul (F j) (B j) (F_nn j l) (B_nn j l) }

  -- The terms of Z, and what underflows in each: Z and N as sums of such.
  Z-near : Close (k + n) (Z ieee J v) (exact_z J v) (sum rational n mass)
  unfolding Z ZOf
  Z-near =
      sum-close k (λ j. mul binary64 (at ieee (forward ieee J v) j) (at ieee (backward ieee J v) j)) (λ j. F j ⋆ B j) mass n
      (λ j l. term_near (forward ieee J v) (exact_forward J v) ahead-near j l (terms-finite j l)) low Z_fin

  module _ (u : ℕ) (before : u ≤ v) where
    N_fin : T (finite (N ieee J u v))
    N_fin = ((numerator_under J ok u v before).size Z_fin).is_finite

    direct-near : T (finite (direct_n ieee J u v))
        → Close (k + n) (direct_n ieee J u v) (direct_nof rational (at_values J) (exact_forward J) (ahead J) (exact_backward J) u v) (sum rational n mass)
    unfolding direct_n direct_nof
    direct-near =
        signed-close k (λ j. mul binary64 (at ieee (forward ieee J v) j) (at ieee (backward ieee J v) j)) (λ j. F j ⋆ B j) mass
        (λ j. not (beq (bit 0 j) (bit (v - u) j))) n (λ j l. term_near (forward ieee J v) (exact_forward J v) ahead-near j l (terms-finite j l)) low

    e : u + (v - u) ≡ v
    e = omega arith

    g : List ℚ
    g = propagated_of rational (at_values J) (exact_forward J) (ahead J) (exact_backward J) u (v - u)

    far-near : Near J (suc v * c) (propagated ieee J u (v - u)) g (exact_forward J v)
    unfolding g
    far-near =
        subst (λ (m : ℕ). Near J (suc m * c) (propagated ieee J u (v - u))
        (propagated_of rational (at_values J) (exact_forward J) (ahead J) (exact_backward J) u (v - u)) (exact_forward J m)) e
        (propagated-near J β normal.β_nn normal.β-one ok.window normal.moderate c normal.few ok u (v - u) (rw e normal.clear-ahead)
        (rw e (forward-finite J ok v v (omega arith) Z_fin)))

    far-finite : (j : ℕ) → j < n → T (finite (mul binary64 (at ieee (propagated ieee J u (v - u)) j) (at ieee (backward ieee J v) j)))
    far-finite j l =
        let b = rw e at (propagated-under J ok u (v - u)) in
        ((mul_under binary64 (b j) (backward_beneath J (checked-not_minus J ok) v j)).size (terms-finite j l)).is_finite

    propagated-close : T (finite (propagated_n ieee J u v))
        → Close (k + n) (propagated_n ieee J u v) (propagated_nof rational (at_values J) (exact_forward J) (ahead J) (exact_backward J) u v) (sum rational n mass)
    unfolding propagated_n propagated_nof g
    propagated-close =
        signed-close k (λ j. mul binary64 (at ieee (propagated ieee J u (v - u)) j) (at ieee (backward ieee J v) j)) (λ j. at rational g j ⋆ B j) mass
        (λ j. bit 0 j) n (λ j l. term_near (propagated ieee J u (v - u)) g far-near j l (far-finite j l)) low

    N-near : Close (k + n) (N ieee J u v) (exact_n J u v) (sum rational n mass)
    unfolding N NOf
    N-near = go (ltb (v - u) J.window) N_fin
      where
        go : (b : Bool) → T (finite (cond b (direct_n ieee J u v) (propagated_n ieee J u v)))
            → Close (k + n) (cond b (direct_n ieee J u v) (propagated_n ieee J u v))
            (cond b (direct_nof rational (at_values J) (exact_forward J) (ahead J) (exact_backward J) u v)
            (propagated_nof rational (at_values J) (exact_forward J) (ahead J) (exact_backward J) u v)) (sum rational n mass)
        go true f = direct-near f
        go false f = propagated-close f

  -- Exactly, N is no larger than Z.
  N-within : (u : ℕ) → u ≤ v → Within (exact_n J u v) (exact_z J v)
  unfolding NOf ZOf direct_nof propagated_nof g
  N-within u before = go (ltb (v - u) J.window)
    where
      go : (b : Bool) → Within (cond b (direct_nof rational (at_values J) (exact_forward J) (ahead J) (exact_backward J) u v)
          (propagated_nof rational (at_values J) (exact_forward J) (ahead J) (exact_backward J) u v)) (exact_z J v)
      go true =
          signed-within (λ j. not (beq (bit 0 j) (bit (v - u) j))) (λ j. F j ⋆ B j) (λ j. F j ⋆ B j) (2 ^ J.window)
          (λ j l. within_nonneg (F j ⋆ B j) (nn_mul _ _ (F_nn j l) (B_nn j l)))
      go false =
          signed-within (λ j. bit 0 j) (λ j. at rational (g u before) j ⋆ B j) (λ j. F j ⋆ B j) (2 ^ J.window)
          (λ j l. within_mul (far-near u before j l).size (back-near j l).size)

  -- ---- what underflows in the terms costs one rounding more

  Z_nn : NonNeg (exact_z J v)
  unfolding ZOf
  Z_nn = sum_nn n (λ j. F j ⋆ B j) (λ j l. nn_mul (F j) (B j) (F_nn j l) (B_nn j l))

  lifted : {x : Float} {e : ℚ} → Close (k + n) x e (sum rational n mass) → Within e (exact_z J v) → Close (roundings J c) x e (exact_z J v)
  unfolding ZOf gain
  lifted close size =
      let Z = exact_z J v in
      let q = gain (k + n) in
      let mass-is : sum rational n mass ≡ Z ⊹ nat n ⋆ smallest = sum_raised n (λ j. F j ⋆ B j) smallest in
      let more : sum rational n mass ≼ Z ⊹ ε ⋆ Z = subst (λ z. z ≼ Z ⊹ ε ⋆ Z) (sym mass-is) (≼_add (≼_refl Z) normal.outweighs) in
      record {
        error = close.error;
        is = close.is;
        small = within_mono close.small
            (≼_trans (≼-times q (gain_nn (k + n)) more) (record { rest = ε ⋆ Z; is = ring q ε Z; nonneg = nn_mul _ _ ε_nn Z_nn }));
        size = size;
      }
    where
      ring : (q e z : ℚ) → (q ⊹ e ⋆ (oneℚ ⊹ q)) ⋆ z ≡ q ⋆ (z ⊹ e ⋆ z) ⊹ e ⋆ z
      ring q e z = simp (spread, sorted)

  -- Z and N are close to the exact ones, their errors of the size of the exact Z,
  pub Z-close : Close (roundings J c) (Z ieee J v) (exact_z J v) (exact_z J v)
  Z-close = lifted Z-near (within_nonneg (exact_z J v) Z_nn)

  pub N-close : (u : ℕ) → u ≤ v → Close (roundings J c) (N ieee J u v) (exact_n J u v) (exact_z J v)
  N-close u before = lifted (N-near u before) (N-within u before)

  -- which is above zero.
  pub Z_pos : Posℚ (exact_z J v)
  Z_pos =
      pos_cancel ε (exact_z J v) ε_pos (≼_pos (pos_mul _ _ (above-nat n (pow_pos J.window)) smallest_pos) normal.outweighs)
