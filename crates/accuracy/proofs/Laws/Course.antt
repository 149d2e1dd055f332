-- A sweep with room below stays in the normal range, whatever its length: by induction over its steps, with its roundings.
use Rattle.std.specs.Prelude.{◌≡◌, ◌⊎◌, List, ℕ, zero, suc, ◌*◌, ◌^◌, ◌≤◌, ◌<◌, T, length, Float}
use Rattle.std.proofs.Math.Path.{refl}
use Rattle.std.proofs.Common.{sym, ◌∙◌, ap, subst, inl, inr, arith, le_trans, mul-le-mul_right, pow_pos}
use Rattle.std.proofs.Math.Decide.{ℕ_discrete}
use Rattle.std.specs.Float.{binary64}
use Rattle.std.specs.Float.Ieee.{div}
use Rattle.std.specs.Float.Ieee.Scale.{finite}
use Rattle.rounding.specs.Under.{unit, nought}
use Rattle.fraction.proofs.Fraction.{ℚ, oneℚ, Posℚ}
use Rattle.fraction.proofs.Laws.Fraction.{pos_mul, pos_one}
use Rattle.fraction.proofs.Value.{value}
use Rattle.transfer_matrix.specs.Rounded.{ieee}
use Rattle.transfer_matrix.specs.Sweep.{at, largest}
use Rattle.accuracy.specs.Ring.{NonNeg, nat}
use Rattle.accuracy.proofs.Laws.Ring.{◌⋆◌, ◌≼◌, ≼_pos, nn_mul, nn_pos, *-one, one-*}
use Rattle.accuracy.proofs.Close.{Close}
use Rattle.accuracy.proofs.Laws.Powers.{power, θ, θ_nn, θ-one, σ, power_pos}
use Rattle.accuracy.proofs.Laws.Steps.{Clear}
use Rattle.accuracy.proofs.Laws.ExactSweeps.{positively, positively-is}
use Rattle.accuracy.proofs.Laws.Sizes.{nat_mono, above-nat, pos_cancel}
use Rattle.accuracy.proofs.Laws.Roundings.{gain-half}
use Rattle.accuracy.proofs.Laws.Largest.{Entry}
use Rattle.accuracy.proofs.Laws.Rescaled.{Rescaled, rescaled}
use Rattle.accuracy.proofs.Laws.Levels.{Level, fresh, Settled}
use Rattle.accuracy.proofs.Laws.Room.{Room, not_large, clear}

-- What holds below t and at t holds below t + 1.
up_to : (P : ℕ → Type 0) (t : ℕ) → ((i : ℕ) → i < t → P i) → P t → (i : ℕ) → i < suc t → P i
up_to P t h k i l = go (ℕ_discrete i t)
  where
    go : Dec (i ≡ t) → P i
    go (yes e) = subst P (sym e) k
    go (no e) = h i (omega (arith, e))

module _ (w : ℕ) (W : 1 ≤ w) (β : ℚ) (β_nn : NonNeg β) (β-one : β ≼ oneℚ) (p : ℕ) where
  abbrev n : ℕ
  n = 2 ^ w

  unit-over-unit : value (div binary64 unit unit) ≡ oneℚ
  unfolding value div
  unit-over-unit = refl

  same-level : {s : ℕ} {x y : ℕ → ℚ} → ((j : ℕ) → x j ≡ y j) → Level n (θ β p) s x → Level n (θ β p) s y
  same-level {s} {x} {y} e l = record {
    index = l.index;
    inside = l.inside;
    least = subst (λ z. power (θ β p) s ≼ nat 4 ⋆ z) (e l.index) l.least;
    most = λ j m. subst (λ z. power (θ β p) s ⋆ z ≼ nat (4 * 2 ^ s)) (e j) (l.most j m);
  }

  -- A sweep of so many steps, c roundings each, and what is known of it: m near edges at each step, rounded vectors v, exact ones M, the stored L
  -- that the scales are one over, and the steps since the last rescaling, its phase.
  pub record Course (c limit : ℕ) : Type 0 where
    pub m : ℕ → ℕ
    pub few : (i : ℕ) → m i ≤ p
    pub v : ℕ → List Float
    pub L : ℕ → Float
    pub M : ℕ → ℕ → ℚ
    pub phase : ℕ → ℕ
    pub M_nn : (t j : ℕ) → j < 2 ^ w → NonNeg (M t j)
    pub apart : (t i j : ℕ) → i < 2 ^ w → j < 2 ^ w → power (σ β p) w ⋆ M t i ≼ M t j
    pub phases : (t : ℕ) → phase t ≤ 3
    pub start-M : (j : ℕ) → j < 2 ^ w → M 0 j ≡ oneℚ
    pub start-L : L 0 ≡ unit
    pub step : (t s : ℕ) → Level (2 ^ w) (θ β p) s (λ j. positively (value (div binary64 unit (L t))) ⋆ M t j)
        → Level (2 ^ w) (θ β p) (suc s) (M (suc t))
    pub next : (t : ℕ) → ((L (suc t) ≡ unit) × (phase (suc t) ≡ suc (phase t))) ⊎ (L (suc t) ≡ largest ieee nought (v (suc t)))
    pub lengths : (t : ℕ) → length (v t) ≡ 2 ^ w
    pub entries : (t : ℕ) → t ≤ limit → (j : ℕ) → j < 2 ^ w → Entry (at ieee (v t) j)
    pub finite-scale : (t : ℕ) → t < limit → T (finite (div binary64 unit (L t)))
    pub near : (t : ℕ) → t ≤ limit → ((i : ℕ) → i < t → Posℚ (value (div binary64 unit (L i))))
        → ((i : ℕ) → i < t → Clear β (m i) w (positively (value (div binary64 unit (L i)))) (M i))
        → (j : ℕ) → j < 2 ^ w → Close (t * c) (at ieee (v t) j) (M t j) (M t j)

  module _ (room : Room β p w) (β-pos : Posℚ β) (c limit : ℕ) (short : limit * c ≤ 2 ^ 26) (course : Course c limit) where
    open course use {m, few, v, L, M, phase, M_nn, apart, phases, start-M, start-L, step, next, lengths, entries, finite-scale, near}

    abbrev S : ℕ → ℚ
    S t = value (div binary64 unit (L t))

    abbrev C : ℕ → ℚ
    C t = positively (S t)

    -- What holds after t steps: none left the normal range, the vector is settled, and the next scale takes it to the level of its phase.
    pub record Reached (t : ℕ) : Type 0 where
      pub scales : (i : ℕ) → i < t → Posℚ (value (div binary64 unit (course.L i)))
      pub steps : (i : ℕ) → i < t → Clear β (course.m i) w (positively (value (div binary64 unit (course.L i)))) (course.M i)
      pub settled : Settled (2 ^ w) (θ β p) (course.M t)
      pub now : t < limit → Posℚ (value (div binary64 unit (course.L t)))
          × Level (2 ^ w) (θ β p) (course.phase t) (λ j. positively (value (div binary64 unit (course.L t))) ⋆ course.M t j)

    few-roundings : (t : ℕ) → t ≤ limit → t * c ≤ 2 ^ 26
    few-roundings t l = le_trans (mul-le-mul_right c l) short

    one_in : 0 < n
    one_in = pow_pos w

    -- Where 1.0 is stored, the level stays,
    unscaled : (t s : ℕ) → L t ≡ unit → Level n (θ β p) s (M t) → Posℚ (S t) × Level n (θ β p) s (λ j. C t ⋆ M t j)
    unscaled t s e l =
        let x : S t ≡ oneℚ = ap (λ (z : Float). value (div binary64 unit z)) e ∙ unit-over-unit in
        let q : Posℚ (S t) = subst Posℚ (sym x) pos_one in
        (q, same-level (λ j. sym (ap (λ z. z ⋆ M t j) (sym (positively-is (S t) q) ∙ x) ∙ one-* (M t j))) l)

    C_nn : (t : ℕ) → Posℚ (S t) → NonNeg (C t)
    C_nn t h = nn_pos (C t) (subst Posℚ (positively-is (S t) h) h)

    powers_pos : (s : ℕ) → Posℚ (power (θ β p) s)
    powers_pos s = power_pos (θ β p) (pos_mul β (power β p) β-pos (power_pos β β-pos p)) s

    -- and where the largest entry is stored, the vector is at its first level again.
    scaled : (t s : ℕ) → t < limit → L t ≡ largest ieee nought (v t) → ((j : ℕ) → j < n → Close (t * c) (at ieee (v t) j) (M t j) (M t j))
        → (s₂ : ℕ) → s₂ ≤ 4 → Level n (θ β p) s₂ (M t) → Posℚ (S t) × Level n (θ β p) s (λ j. C t ⋆ M t j)
    scaled t s l e near s₂ S₂ own =
        let some = pos_cancel (nat 4) (M t own.index) (above-nat 4 (omega arith)) (≼_pos (powers_pos s₂) own.least) in
        let r = rescaled n (t * c) (gain-half (t * c) (few-roundings t (omega arith))) (v t) (lengths t) (entries t (omega arith)) (M t) (M_nn t) near own.index
        own.inside some
        (subst (λ (z : Float). T (finite (div binary64 unit z))) e (finite-scale t l)) (not_large w β β_nn β-one p room (M t) (M_nn t) (apart t) s₂ S₂ own) in
        let r' : Rescaled n (S t) (M t) = subst (λ (z : Float). Rescaled n (value (div binary64 unit z)) (M t)) (sym e) r in
        let q = r'.positive in
        let is = positively-is (S t) q in
        let N = C_nn t q in (
          q,
          fresh w W (θ β p) (θ_nn β β_nn β-one p) (θ-one β β_nn β-one p) s (λ j. C t ⋆ M t j) (λ j b. nn_mul _ _ N (M_nn t j b)) r'.index r'.inside
              (subst (λ z. oneℚ ≼ nat 4 ⋆ (z ⋆ M t r'.index)) is r'.least) (λ j b. subst (λ z. z ⋆ M t j ≼ nat 4) is (r'.most j b)),
        )

    start-level : (s : ℕ) → Level n (θ β p) s (M 0)
    start-level s =
        fresh w W (θ β p) (θ_nn β β_nn β-one p) (θ-one β β_nn β-one p) s (M 0) (M_nn 0) 0 one_in
        (subst (λ z. oneℚ ≼ nat 4 ⋆ z) (sym (start-M 0 one_in)) (subst (λ z. oneℚ ≼ z) (sym (*-one (nat 4))) (nat_mono 1 4 (omega arith))))
        (λ j b. subst (λ z. z ≼ nat 4) (sym (start-M j b)) (nat_mono 1 4 (omega arith)))

    -- It holds after each step.
    pub reach : (t : ℕ) → t ≤ limit → Reached t
    reach zero l = record {
      scales = λ i b. absurd (omega arith);
      steps = λ i b. absurd (omega arith);
      settled = record { steps = 0; few = omega arith; level = start-level 0 };
      now = λ b. unscaled 0 (phase 0) start-L (start-level (phase 0));
    }
    reach (suc t) l = more (reach t (omega arith))
      where
        more : Reached t → Reached (suc t)
        more r =
            let b : t < limit = omega arith in
            let (q, lev) = r.now b in
            let here = clear w β β_nn β-one p room (M t) (M_nn t) (apart t) r.settled.steps r.settled.few r.settled.level (m t) (few t) (C t)
            (C_nn t q) (phase t) (phases t) lev in
            let scales : (i : ℕ) → i < suc t → Posℚ (S i) = λ i j. up_to (λ i. Posℚ (S i)) t r.scales q i j in
            let steps : (i : ℕ) → i < suc t → Clear β (m i) w (C i) (M i) = λ i j. up_to (λ i. Clear β (m i) w (C i) (M i)) t r.steps here i j in
            let own = step t (phase t) lev in
            let o : suc (phase t) ≤ 4 = let z = phases t in omega arith in
            record {
              scales = scales;
              steps = steps;
              settled = record { steps = suc (phase t); few = o; level = own };
              now = λ d. go d (near (suc t) l scales steps) own o (next t);
            }
          where
            go : suc t < limit → ((j : ℕ) → j < n → Close (suc t * c) (at ieee (v (suc t)) j) (M (suc t) j) (M (suc t) j))
                → Level n (θ β p) (suc (phase t)) (M (suc t)) → suc (phase t) ≤ 4
                → (((L (suc t) ≡ unit) × (phase (suc t) ≡ suc (phase t))) ⊎ (L (suc t) ≡ largest ieee nought (v (suc t))))
                → Posℚ (S (suc t)) × Level n (θ β p) (phase (suc t)) (λ j. C (suc t) ⋆ M (suc t) j)
            go d near own o (inl (e, f)) = unscaled (suc t) (phase (suc t)) e (subst (λ (s : ℕ). Level n (θ β p) s (M (suc t))) (sym f) own)
            go d near own o (inr e) = scaled (suc t) (phase (suc t)) d e near (suc (phase t)) o own
