-- The sweeps, rounded and exact: their vectors are close, with so many roundings a step, while no step leaves the normal range.
use Rattle.std.specs.Prelude.{◌≡◌, Bool, true, false, cond, List, T, length, Float}
use Rattle.std.proofs.Math.Path.{sym, ap, subst}
use Rattle.std.proofs.Common.{◌∙◌, subst₂}
use Prim.Native.Nat.{ℕ, zero, suc, ◌+◌, ◌*◌, ◌-◌, ◌^◌, ◌≤◌, ◌<◌}
use Rattle.std.proofs.Math.Nat.{add-zero, add-suc}
use native.Mathlib.Omega.{arith}
use Rattle.std.specs.Float.Ieee.{binary64, div, neg}
use Rattle.std.specs.Float.Ieee.Scale.{finite}
use Rattle.std.specs.Float.Ieee.Positive.{positive}
use Rattle.rounding.specs.Under.{unit}
use Rattle.fraction.proofs.Fraction.{ℚ, oneℚ, Posℚ}
use Rattle.fraction.proofs.Value.{value}
use Rattle.list_laws.specs.Bits.{bit}
use Rattle.transfer_matrix.specs.Job.{Job, step_of}
use Rattle.transfer_matrix.specs.Rounded.{ieee}
use Rattle.transfer_matrix.specs.Sweep.{at, start, alternate, forward_at, forward_step, backward_at, backward_step, before_step, after_steps, forward, scale}
use Rattle.transfer_matrix.specs.Sweep.{propagated}
use Rattle.transfer_matrix.specs.Checked.{Checked}
use Rattle.exactness.proofs.AnyScales.{propagated_of}
use Rattle.exactness.proofs.Laws.Entries as E
use Rattle.exactness.specs.Exact.{rational, at_values}
use Rattle.bounds.proofs.Laws.Steps.{Finite, forward_step-finite}
use Rattle.bounds.proofs.Bounds.{propagated-under, forward-finite-before}
use Rattle.accuracy.specs.Ring.{NonNeg}
use Rattle.accuracy.proofs.Laws.Ring.{‐◌, ◌≼◌, nn_pos, nn_one}
use Rattle.accuracy.proofs.Laws.Within.{within_nonneg}
use Rattle.accuracy.proofs.Close.{Close}
use Rattle.accuracy.proofs.Laws.Close.{close-exact, close_mono, close_neg}
use Rattle.accuracy.proofs.Laws.AtValues.{step_of-values, step_at_value}
use Rattle.accuracy.proofs.Laws.Factors.{ModerateStep}
use Rattle.accuracy.proofs.Laws.Steps.{Clear, forward_at-close, backward_at-close}
use Rattle.accuracy.proofs.Laws.Finite.{backward_step-finite}
use Rattle.accuracy.proofs.Laws.ExactSweeps.{positively-is, positively_pos, ahead, back, before, after, exact_forward, exact_backward}

module _ (J : Job Float) where
  -- Entry by entry, v is close to g with k roundings, the errors of the size of m's entries.
  abbrev pub Near : ℕ → List Float → List ℚ → List ℚ → Type 0
  Near k v g m = (j : ℕ) → j < 2 ^ J.window → Close k (at ieee v j) (at rational g j) (at rational m j)

  start-near : Near 0 (start ieee J.window) (start rational J.window) (start rational J.window)
  unfolding value
  start-near j l =
      let r = E.start-at rational J.window j l in
      close-exact _ _ _ (ap value (E.start-at ieee J.window j l) ∙ sym r) (within_nonneg _ (subst NonNeg (sym r) nn_one))

  module _ (β : ℚ) (β_nn : NonNeg β) (β-one : β ≼ oneℚ) (W : 1 ≤ J.window) (moderate : (t : ℕ) → ModerateStep β (step_of J t))
      (c : ℕ) (few : (t : ℕ) → length (step_of J t).others + 5 ≤ c) where
    -- The step at t, at the scale q, leaves the normal range nowhere.
    abbrev pub Clearly : ℕ → ℚ → List ℚ → Type 0
    Clearly t q m = Clear β (length (step_of J t).others) J.window q (at rational m)

    -- Vectors are near where their entries x, a and d are close, with the roundings of the step at t: at most c.
    step-near : (t k : ℕ) (v : List Float) (g m : List ℚ) (x : ℕ → Float) (a d : ℕ → ℚ)
        → ((j : ℕ) → j < 2 ^ J.window → at ieee v j ≡ x j) → ((j : ℕ) → j < 2 ^ J.window → at rational g j ≡ a j)
        → ((j : ℕ) → j < 2 ^ J.window → at rational m j ≡ d j) → Finite J.window v
        → ((j : ℕ) → j < 2 ^ J.window → T (finite (x j)) → Close (k + (length (step_of J t).others + 5)) (x j) (a j) (d j)) → Near (k + c) v g m
    step-near t k v g m x a d is_x is-a is-d fin close j l =
        rw (is_x j l, is-a j l, is-d j l)
        (close_mono (k + c) (let f = few t in omega arith) (close j l (subst (λ (y : Float). T (finite y)) (is_x j l) (fin j l))))

    -- The step at t, rounded and exact.
    abbrev rounded_forward : ℕ → Float → List Float → List Float
    rounded_forward t sc v = forward_step ieee J.window (step_of J t) sc v

    abbrev exactly_forward : ℕ → ℚ → List ℚ → List ℚ
    exactly_forward t q g = forward_step rational J.window (step_of (at_values J) t) q g

    abbrev rounded_backward : ℕ → Float → List Float → List Float
    rounded_backward t sc v = backward_step ieee J.window (step_of J t) sc v

    abbrev exactly_backward : ℕ → ℚ → List ℚ → List ℚ
    exactly_backward t q g = backward_step rational J.window (step_of (at_values J) t) q g

    -- The steps at t, at a scale sc that stands for q.
    module _ (t k : ℕ) (sc : Float) (q : ℚ) (is : value sc ≡ q) (q-nn : NonNeg q) (v : List Float) (g m : List ℚ) (near : Near k v g m) (clear : Clearly t q m) where
      forward-near : Finite J.window (rounded_forward t sc v) → Near (k + c) (rounded_forward t sc v) (exactly_forward t q g) (exactly_forward t q m)
      forward-near fin =
          step-near t k (rounded_forward t sc v) (exactly_forward t q g) (exactly_forward t q m) _ _ _ (E.forward-at ieee (step_of J t) sc J.window v) (entry g)
          (entry m) fin
          (forward_at-close β β_nn β-one J.window W (step_of J t) (moderate t) sc q is q-nn k (at ieee v) (at rational g) (at rational m) near clear)
        where
          entry : (h : List ℚ) (j : ℕ) → j < 2 ^ J.window
              → at rational (exactly_forward t q h) j ≡ forward_at rational J.window (step_at_value (step_of J t)) q (at rational h) j
          entry h j l =
              E.forward-at rational (step_of (at_values J) t) q J.window h j l
              ∙ ap (λ s. forward_at rational J.window s q (at rational h) j) (step_of-values J t)

      backward-near : Finite J.window (rounded_backward t sc v) → Near (k + c) (rounded_backward t sc v) (exactly_backward t q g) (exactly_backward t q m)
      backward-near fin =
          step-near t k (rounded_backward t sc v) (exactly_backward t q g) (exactly_backward t q m) _ _ _ (E.backward-at ieee (step_of J t) sc J.window v)
          (entry g) (entry m) fin
          (backward_at-close β β_nn β-one J.window W (step_of J t) (moderate t) sc q is q-nn k (at ieee v) (at rational g) (at rational m) near clear)
        where
          entry : (h : List ℚ) (j : ℕ) → j < 2 ^ J.window
              → at rational (exactly_backward t q h) j ≡ backward_at rational J.window (step_at_value (step_of J t)) q (at rational h) j
          entry h j l =
              E.backward-at rational (step_of (at_values J) t) q J.window h j l
              ∙ ap (λ s. backward_at rational J.window s q (at rational h) j) (step_of-values J t)

    -- The forward steps before t leave the normal range nowhere, and their scales are above zero;
    pub record ClearAhead (t : ℕ) : Type 0 where
      pub scales : (i : ℕ) → i < t → Posℚ (value (scale ieee J i))
      pub steps : (i : ℕ) → i < t → Clearly i (ahead J i) (before J i)

    -- and so do the first n backward steps.
    pub record ClearBack (n : ℕ) : Type 0 where
      pub scales : (i : ℕ) → i < n → Posℚ (value (div binary64 unit (after_steps ieee J i).1))
      pub steps : (i : ℕ) → i < n → Clearly (J.last - i) (back J i) (after J i)

    -- Then the forward vector is close to the exact one, with c roundings a step,
    pub before-near : (t : ℕ) → ClearAhead t → Finite J.window (before_step ieee J t).0 → Near (t * c) (before_step ieee J t).0 (before J t) (before J t)
    unfolding before before_step ahead scale
    before-near zero clear fin j l = close_mono (0 * c) (omega arith) (start-near j l)
    before-near (suc t) clear fin j l =
        let earlier : ClearAhead t = record { scales = λ i l. clear.scales i (omega arith); steps = λ i l. clear.steps i (omega arith) } in
        let pos = clear.scales t (omega arith) in
        let sc = scale ieee J t in
        let fin₁ = forward_step-finite J.window (step_of J t) sc (before_step ieee J t).0 W fin in
        let i : t * c + c ≡ suc t * c = omega arith in
        let is = positively-is (value sc) pos in
        subst (λ (k : ℕ). Near k (before_step ieee J (suc t)).0 (before J (suc t)) (before J (suc t))) i
        (forward-near t (t * c) sc (ahead J t) is (nn_pos _ (positively_pos (value sc))) (before_step ieee J t).0 (before J t) (before J t)
        (before-near t earlier fin₁) (clear.steps t (omega arith)) fin) j l

    -- and so is the backward vector.
    pub after-near : (n : ℕ) → ClearBack n → Finite J.window (after_steps ieee J n).0 → Near (n * c) (after_steps ieee J n).0 (after J n) (after J n)
    unfolding after after_steps back
    after-near zero clear fin j l = close_mono (0 * c) (omega arith) (start-near j l)
    after-near (suc n) clear fin j l =
        let earlier : ClearBack n = record { scales = λ i l. clear.scales i (omega arith); steps = λ i l. clear.steps i (omega arith) } in
        let pos = clear.scales n (omega arith) in
        let sc = div binary64 unit (after_steps ieee J n).1 in
        let fin₁ = backward_step-finite J.window (step_of J (J.last - n)) sc (after_steps ieee J n).0 W fin in
        let i : n * c + c ≡ suc n * c = omega arith in
        let is = positively-is (value sc) pos in
        subst (λ (k : ℕ). Near k (after_steps ieee J (suc n)).0 (after J (suc n)) (after J (suc n))) i
        (backward-near (J.last - n) (n * c) sc (back J n) is (nn_pos _ (positively_pos (value sc))) (after_steps ieee J n).0 (after J n) (after J n)
        (after-near n earlier fin₁) (clear.steps n (omega arith)) fin) j l

    -- A propagated vector is close to the exact one, its errors of the size of the forward vector's entries.
    alternate-near : (k : ℕ) (v : List Float) (m : List ℚ) → Near k v m m → Near k (alternate ieee J.window v) (alternate rational J.window m) m
    alternate-near k v m near j l =
        subst₂ (λ (x : Float) (e : ℚ). Close k x e (at rational m j)) (sym (E.alternate-at ieee J.window v j l)) (sym (E.alternate-at rational J.window m j l))
        (go (bit 0 j) (near j l))
      where
        go : {x : Float} {e d : ℚ} (b : Bool) → Close k x e d → Close k (cond b (neg x) x) (cond b (‐ e) e) d
        go true c = close_neg c
        go false c = c

    module _ (ok : Checked (λ x. T (positive x)) J) where
      propagated-finite : (u i : ℕ) → Finite J.window (forward ieee J (u + i)) → Finite J.window (propagated ieee J u i)
      propagated-finite u i fin j l = ((propagated-under J ok u i j).size (fin j l)).is_finite

      pub propagated-near : (u i : ℕ) → ClearAhead (suc (u + i)) → Finite J.window (forward ieee J (u + i))
          → Near (suc (u + i) * c) (propagated ieee J u i) (propagated_of rational (at_values J) (exact_forward J) (ahead J) (exact_backward J) u i)
          (exact_forward J (u + i))
      unfolding propagated propagated_of forward before ahead
      propagated-near u zero clear fin j l =
          let e : u + 0 ≡ u = add-zero u in
          subst (λ (n : ℕ). Near (suc n * c) (alternate ieee J.window (forward ieee J u)) (alternate rational J.window (exact_forward J u))
          (exact_forward J n)) (sym e)
          (alternate-near (suc u * c) (forward ieee J u) (exact_forward J u) (before-near (suc u) (rw e at clear) (rw e at fin))) j l
      propagated-near u (suc i) clear fin j l =
          let t = u + suc i in
          let e : u + suc i ≡ suc (u + i) = add-suc u i in
          let sc = scale ieee J t in
          let earlier : ClearAhead (suc (u + i)) = record { scales = λ n l. clear.scales n (omega arith); steps = λ n l. clear.steps n (omega arith) } in
          let fin₁ = forward-finite-before J ok (u + i) (rw e at fin) in
          let ih = propagated-near u i earlier fin₁ in
          let ih₁ = subst (λ (n : ℕ). Near (suc (u + i) * c) (propagated ieee J u i)
          (propagated_of rational (at_values J) (exact_forward J) (ahead J) (exact_backward J) u i) (before J n)) (sym e) ih in
          let k : suc (u + i) * c + c ≡ suc (u + suc i) * c = ap (λ (n : ℕ). n * c + c) (sym e) ∙ omega arith in
          subst (λ (k : ℕ). Near k (propagated ieee J u (suc i)) (propagated_of rational (at_values J) (exact_forward J) (ahead J) (exact_backward J) u (suc i))
          (exact_forward J t)) k
          (forward-near t (suc (u + i) * c) sc (ahead J t) (positively-is (value sc) (clear.scales t (omega arith))) (nn_pos _ (positively_pos (value sc)))
          (propagated ieee J u i) (propagated_of rational (at_values J) (exact_forward J) (ahead J) (exact_backward J) u i) (before J t) ih₁
          (clear.steps t (omega arith))
          (propagated-finite u (suc i) fin)) j l
