-- How far apart the entries of an exact vector can be: the weights of a window's vertices apart, and no more, however long the sweep.
use Rattle.std.specs.Prelude.{◌≡◌, refl, length, Float}
use Rattle.std.proofs.Math.Path.{sym, ap, subst}
use Rattle.std.proofs.Common.{◌∙◌, subst₂, add-zero, add-suc, mod-lt, add_comm, pow_pos, pow-add}
use Prim.Native.Nat.{ℕ, zero, suc, ◌+◌, ◌*◌, ◌-◌, ◌/◌, ◌%◌, ◌^◌, ◌≤◌, ◌<◌}
use Rattle.std.proofs.Math.Nat.{mod-eq_of_lt, div-eq_of_lt, add-mul-div_right}
use native.Mathlib.Omega.{arith}
use Rattle.fraction.proofs.Fraction.{ℚ, oneℚ}
use Rattle.list_laws.proofs.Laws.Power.{pow_double}
use Rattle.transfer_matrix.specs.Job.{Job, step_of}
use Rattle.transfer_matrix.specs.Sweep.{at, start, forward_at, backward_at}
use Rattle.exactness.proofs.Laws.Digits.{shift_suc, mod_even, mod_odd, mod_low}
use Rattle.exactness.proofs.Laws.Entries as E
use Rattle.exactness.specs.Exact.{rational, at_values}
use Rattle.accuracy.specs.Ring.{NonNeg}
use Rattle.accuracy.proofs.Laws.Ring.{◌⋆◌, ◌≼◌, ≼_refl, ≼_mul, nn_mul, nn_pos, one-*, *_comm, nn_one}
use Rattle.accuracy.proofs.Laws.AtValues.{step_of-values}
use Rattle.accuracy.proofs.Laws.Powers.{power, power_nn, power-one, θ, θ_nn, σ, σ_nn, σ-one}
use Rattle.accuracy.proofs.Laws.Factors.{ModerateStep}
use Rattle.accuracy.proofs.Laws.ExactSweeps.{after, ahead, back, before, ahead_pos, back_pos}
use Rattle.accuracy.proofs.Laws.Mix.{Mix, mix_nn, mix-ratio}
use Rattle.accuracy.proofs.Laws.Weights.{forward-mix, backward-mix}

-- ---- indexes

mod_mod : (b d s : ℕ) → s % 2 ^ (b + d) % 2 ^ b ≡ s % 2 ^ b
mod_mod b zero s = ap (λ (n : ℕ). s % 2 ^ n % 2 ^ b) (add-zero b) ∙ mod-eq_of_lt (mod-lt s (pow_pos b))
mod_mod b (suc d) s =
    ap (λ (n : ℕ). s % 2 ^ n % 2 ^ b) (add-suc b d)
    ∙ sym (mod_mod b d (s % 2 ^ suc (b + d))) ∙ ap (λ (n : ℕ). n % 2 ^ b) (mod_low (b + d) s) ∙ mod_mod b d s

same_low : (w r i i' : ℕ) → r ≤ w - 1 → i % 2 ^ r ≡ i' % 2 ^ r → i % 2 ^ (w - 1) % 2 ^ r ≡ i' % 2 ^ (w - 1) % 2 ^ r
same_low w r i i' h e = let d : r + (w - 1 - r) ≡ w - 1 = omega arith in low i d ∙ e ∙ sym (low i' d)
  where
    low : (s : ℕ) → r + (w - 1 - r) ≡ w - 1 → s % 2 ^ (w - 1) % 2 ^ r ≡ s % 2 ^ r
    low s d = ap (λ (n : ℕ). s % 2 ^ n % 2 ^ r) (sym d) ∙ mod_mod r (w - 1 - r) s

upper : (w q x : ℕ) → q ≤ w - 1 → (2 ^ (w - 1) + x) / 2 ^ q ≡ x / 2 ^ q + 2 ^ (w - 1 - q)
upper w q x h =
    let d : w - 1 - q + q ≡ w - 1 = omega arith in
    ap (λ (n : ℕ). n / 2 ^ q) (add_comm (2 ^ (w - 1)) x ∙ ap (λ (n : ℕ). x + n) (ap (λ (n : ℕ). 2 ^ n) (sym d) ∙ pow-add 2 (w - 1 - q) q))
    ∙ add-mul-div_right x (2 ^ (w - 1 - q)) (pow_pos q)

module _ (J : Job Float) (W : 1 ≤ J.window) (β : ℚ) (β_nn : NonNeg β) (β-one : β ≼ oneℚ) (moderate : (t : ℕ) → ModerateStep β (step_of J t))
    (p : ℕ) (few : (t : ℕ) → length (step_of J t).others ≤ p) where
  abbrev w : ℕ
  w = J.window

  abbrev half : ℕ
  half = 2 ^ (w - 1)

  halves : 2 ^ w ≡ 2 * half
  halves = pow_double w W

  abbrev Made : ℚ → ℚ → ℚ → ℚ → Type 0
  Made = Mix (θ β p)

  -- Each exact entry is made of two entries of the step before.
  pub before-mix : (t j : ℕ) → j < 2 ^ w
      → Made (ahead J t) (at rational (before J t) (j / 2)) (at rational (before J t) (half + j / 2)) (at rational (before J (suc t)) j)
  unfolding before
  before-mix t j l =
      subst (Made (ahead J t) (at rational (before J t) (j / 2)) (at rational (before J t) (half + j / 2)))
      (ap (λ s. forward_at rational w s (ahead J t) (at rational (before J t)) j) (sym (step_of-values J t))
      ∙ sym (E.forward-at rational (step_of (at_values J) t) (ahead J t) w (before J t) j l))
      (forward-mix β β_nn β-one p (step_of J t) (moderate t) (few t) (ahead J t) w (at rational (before J t)) j)

  pub after-mix : (n j : ℕ) → j < 2 ^ w
      → Made (back J n) (at rational (after J n) (2 * (j % half))) (at rational (after J n) (2 * (j % half) + 1)) (at rational (after J (suc n)) j)
  unfolding after
  after-mix n j l =
      let t = J.last - n in
      subst (Made (back J n) (at rational (after J n) (2 * (j % half))) (at rational (after J n) (2 * (j % half) + 1)))
      (ap (λ s. backward_at rational w s (back J n) (at rational (after J n)) j) (sym (step_of-values J t))
      ∙ sym (E.backward-at rational (step_of (at_values J) t) (back J n) w (after J n) j l))
      (backward-mix β β_nn β-one p (step_of J t) (moderate t) (few t) (back J n) w (at rational (after J n)) j)

  ahead_nn : (t : ℕ) → NonNeg (ahead J t)
  ahead_nn t = nn_pos _ (ahead_pos J t)

  back_nn : (n : ℕ) → NonNeg (back J n)
  back_nn n = nn_pos _ (back_pos J n)

  start_is : (j : ℕ) → j < 2 ^ w → at rational (start rational w) j ≡ oneℚ
  start_is j l = E.start-at rational w j l

  half_in : (j : ℕ) → j < 2 ^ w → (j / 2 < 2 ^ w) × (half + j / 2 < 2 ^ w)
  half_in j l = (omega arith, omega (arith, halves))

  double_in : (j : ℕ) → (2 * (j % half) < 2 ^ w) × (2 * (j % half) + 1 < 2 ^ w)
  double_in j = let q : j % half < half = mod-lt j (pow_pos (w - 1)) in (omega (arith, halves), omega (arith, halves))

  -- No exact entry is below zero.
  pub before_nn : (t j : ℕ) → j < 2 ^ w → NonNeg (at rational (before J t) j)
  unfolding before
  before_nn zero j l = subst NonNeg (sym (start_is j l)) nn_one
  before_nn (suc t) j l =
      let b = half_in j l in
      mix_nn (θ_nn β β_nn β-one p) (before-mix t j l) (nn_mul _ _ (ahead_nn t) (before_nn t _ b.0)) (nn_mul _ _ (ahead_nn t) (before_nn t _ b.1))

  pub after_nn : (n j : ℕ) → j < 2 ^ w → NonNeg (at rational (after J n) j)
  unfolding after
  after_nn zero j l = subst NonNeg (sym (start_is j l)) nn_one
  after_nn (suc n) j l =
      let b = double_in j in
      mix_nn (θ_nn β β_nn β-one p) (after-mix n j l) (nn_mul _ _ (back_nn n) (after_nn n _ b.0)) (nn_mul _ _ (back_nn n) (after_nn n _ b.1))

  -- ---- the ratios

  powers : (q : ℕ) → NonNeg (power (σ β p) q)
  powers = power_nn (σ β p) (σ_nn β β_nn β-one p) (σ-one β β_nn β-one p)

  alike : (q : ℕ) (x y : ℚ) → NonNeg x → x ≡ y → power (σ β p) q ⋆ x ≼ y
  alike q x y n e =
      subst₂ (λ a b. power (σ β p) q ⋆ a ≼ b) refl (one-* x ∙ e) (≼_mul (powers q) n (power-one (σ β p) (σ_nn β β_nn β-one p) (σ-one β β_nn β-one p) q) (≼_refl x))

  -- Forward, entries of indexes that differ in the low q digits only are within the ratio of q vertices,
  before-ratio : (t q i i' : ℕ) → q ≤ w → i < 2 ^ w → i' < 2 ^ w → i / 2 ^ q ≡ i' / 2 ^ q
      → power (σ β p) q ⋆ at rational (before J t) i ≼ at rational (before J t) i'
  unfolding before power
  before-ratio zero q i i' h l l' e = alike q _ _ (before_nn 0 i l) (start_is i l ∙ sym (start_is i' l'))
  before-ratio (suc t) zero i i' h l l' e = alike 0 _ _ (before_nn (suc t) i l) (ap (at rational (before J (suc t))) (omega arith))
  before-ratio (suc t) (suc q) i i' h l l' e =
      let e₁ : i / 2 / 2 ^ q ≡ i' / 2 / 2 ^ q = sym (shift_suc q i) ∙ e ∙ shift_suc q i' in
      let e₂ : (half + i / 2) / 2 ^ q ≡ (half + i' / 2) / 2 ^ q =
      upper w q (i / 2) (omega arith) ∙ ap (λ (n : ℕ). n + 2 ^ (w - 1 - q)) e₁ ∙ sym (upper w q (i' / 2) (omega arith)) in
      let b = half_in i l in
      let b' = half_in i' l' in
      subst (λ z. z ⋆ at rational (before J (suc t)) i ≼ at rational (before J (suc t)) i') (*_comm (σ β p) (power (σ β p) q))
      (mix-ratio (θ_nn β β_nn β-one p) (power (σ β p) q) (before-mix t i l) (before-mix t i' l') (ahead_nn t) (before_nn t _ b.0) (before_nn t _ b.1)
      (before_nn t _ b'.0) (before_nn t _ b'.1) (powers q)
      (before-ratio t q (i / 2) (i' / 2) (omega arith) b.0 b'.0 e₁) (before-ratio t q (half + i / 2) (half + i' / 2) (omega arith) b.1 b'.1 e₂))

  -- and backward, entries of indexes that differ in the high q digits only.
  after-ratio : (n q i i' : ℕ) → q ≤ w → i < 2 ^ w → i' < 2 ^ w → i % 2 ^ (w - q) ≡ i' % 2 ^ (w - q)
      → power (σ β p) q ⋆ at rational (after J n) i ≼ at rational (after J n) i'
  unfolding after power
  after-ratio zero q i i' h l l' e = alike q _ _ (after_nn 0 i l) (start_is i l ∙ sym (start_is i' l'))
  after-ratio (suc n) zero i i' h l l' e =
      alike 0 _ _ (after_nn (suc n) i l) (ap (at rational (after J (suc n))) (let z : w - 0 ≡ w = omega arith in sym (mod-eq_of_lt l) ∙ rw z at e ∙ mod-eq_of_lt l'))
  after-ratio (suc n) (suc q) i i' h l l' e =
      let r = w - suc q in
      let s : w - q ≡ suc (w - suc q) = omega arith in
      let e₀ : i % half % 2 ^ r ≡ i' % half % 2 ^ r = same_low w r i i' (omega arith) e in
      let e₁ : 2 * (i % half) % 2 ^ (w - q) ≡ 2 * (i' % half) % 2 ^ (w - q) =
      ap (λ (m : ℕ). 2 * (i % half) % 2 ^ m) s ∙ mod_even r (i % half) ∙ ap (λ (m : ℕ). 2 * m) e₀
      ∙ sym (ap (λ (m : ℕ). 2 * (i' % half) % 2 ^ m) s ∙ mod_even r (i' % half)) in
      let e₂ : (2 * (i % half) + 1) % 2 ^ (w - q) ≡ (2 * (i' % half) + 1) % 2 ^ (w - q) =
      ap (λ (m : ℕ). (2 * (i % half) + 1) % 2 ^ m) s ∙ mod_odd r (i % half) ∙ ap (λ (m : ℕ). 2 * m + 1) e₀
      ∙ sym (ap (λ (m : ℕ). (2 * (i' % half) + 1) % 2 ^ m) s ∙ mod_odd r (i' % half)) in
      let b = double_in i in
      let b' = double_in i' in
      subst (λ z. z ⋆ at rational (after J (suc n)) i ≼ at rational (after J (suc n)) i') (*_comm (σ β p) (power (σ β p) q))
      (mix-ratio (θ_nn β β_nn β-one p) (power (σ β p) q) (after-mix n i l) (after-mix n i' l') (back_nn n) (after_nn n _ b.0) (after_nn n _ b.1)
      (after_nn n _ b'.0) (after_nn n _ b'.1) (powers q)
      (after-ratio n q (2 * (i % half)) (2 * (i' % half)) (omega arith) b.0 b'.0 e₁)
      (after-ratio n q (2 * (i % half) + 1) (2 * (i' % half) + 1) (omega arith) b.1 b'.1 e₂))

  -- So any two entries of a vector, forward or backward, are within the ratio of a window.
  pub before_spread : (t i i' : ℕ) → i < 2 ^ w → i' < 2 ^ w → power (σ β p) w ⋆ at rational (before J t) i ≼ at rational (before J t) i'
  before_spread t i i' l l' = before-ratio t w i i' (omega arith) l l' (div-eq_of_lt l ∙ sym (div-eq_of_lt l'))

  pub after_spread : (n i i' : ℕ) → i < 2 ^ w → i' < 2 ^ w → power (σ β p) w ⋆ at rational (after J n) i ≼ at rational (after J n) i'
  after_spread n i i' l l' = after-ratio n w i i' (omega arith) l l' (one i ∙ sym (one i'))
    where
      one : (i : ℕ) → i % 2 ^ (w - w) ≡ 0
      one i = let z : w - w ≡ 0 = omega arith in rw z (omega arith)
