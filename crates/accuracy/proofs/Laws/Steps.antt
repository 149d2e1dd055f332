-- One step, rounded and exact: entries that are close stay close, with as many roundings more as the step takes.
use Rattle.std.specs.Prelude.{◌≡◌, Bool, true, false, cond, map, T, ltb, length, Float}
use Rattle.std.proofs.Common.{sym, pow_pos}
use Rattle.std.proofs.Math.Path.{subst}
use Prim.Native.Nat.{ℕ, suc, ◌+◌, ◌*◌, ◌-◌, ◌/◌, ◌%◌, ◌^◌, ◌≤◌, ◌<◌}
use Rattle.std.proofs.Math.Nat.{mod-lt}
use native.Mathlib.Omega.{arith}
use Rattle.std.specs.Float.Ieee.{binary64, add, mul}
use Rattle.std.specs.Float.Ieee.Scale.{finite}
use Rattle.rounding.proofs.Laws.Sign.{add_finite, mul_finite}
use Rattle.fraction.proofs.Fraction.{ℚ, oneℚ}
use Rattle.fraction.proofs.Value.{value}
use Rattle.list_laws.specs.Bits.{bit}
use Rattle.list_laws.proofs.Laws.Power.{pow_double}
use Rattle.transfer_matrix.specs.Job.{Step}
use Rattle.transfer_matrix.specs.Rounded.{ieee}
use Rattle.transfer_matrix.specs.Sweep.{pattern, up, down, ep, em, forward_at, backward_at}
use Rattle.exactness.specs.Exact.{rational}
use Rattle.accuracy.specs.Ring.{NonNeg}
use Rattle.accuracy.proofs.Laws.Ring.{◌⊹◌, ◌⋆◌, ◌≼◌, ≼_refl, ≼_trans, ≼-times, ≼_mul, ≼-more, nn_add, nn_mul, sorted, *_comm, one-*}
use Rattle.accuracy.proofs.Laws.Within.{within_nn}
use Rattle.accuracy.specs.Laws.Rounds.{smallest}
use Rattle.accuracy.proofs.Close.{Close}
use Rattle.accuracy.proofs.Laws.Close.{close_add, close_mul}
use Rattle.accuracy.proofs.Laws.AtValues.{step_at_value, back_at_value, maybe_value, pattern-value}
use Rattle.accuracy.proofs.Laws.Powers.{power, power_nn}
use Rattle.accuracy.proofs.Laws.Factors.{ModerateStep}
use Rattle.accuracy.proofs.Laws.Tables.{Table, ep_table, em_table, up_table, down_table}

-- What keeps a step at the scale c on entries of size M in the normal range, its n near factors and its left one being from β to one over β.
pub record Clear (β : ℚ) (n w : ℕ) (c : ℚ) (M : ℕ → ℚ) : Type 0 where
  pub factors : smallest ≼ power β n
  pub left : smallest ≼ β
  pub table : smallest ≼ power β n ⋆ c
  pub entry : (j : ℕ) → j < 2 ^ w → smallest ≼ β ⋆ M j
  pub result : (j : ℕ) → j < 2 ^ w → smallest ≼ (power β n ⋆ c) ⋆ (β ⋆ M j)

module _ (β : ℚ) (β_nn : NonNeg β) (β-one : β ≼ oneℚ) (w : ℕ) (W : 1 ≤ w) (s : Step Float) (moderate : ModerateStep β s)
    (sc : Float) (c : ℚ) (is : value sc ≡ c) (c-nn : NonNeg c)
    (k : ℕ) (v : ℕ → Float) (g M : ℕ → ℚ) (near : (j : ℕ) → j < 2 ^ w → Close k (v j) (g j) (M j)) (clear : Clear β (length s.others) w c M) where
  p : ℚ
  p = power β (length s.others) ⋆ c

  p_nn : NonNeg p
  unfolding p
  p_nn = nn_mul _ _ (power_nn β β_nn β-one (length s.others)) c-nn

  -- A factor of the left edge times an entry.
  beside : {x : Float} {e : ℚ} → Table β β_nn β-one 1 x e β → (j : ℕ) → j < 2 ^ w → T (finite (mul binary64 x (v j)))
      → Close (k + 2) (mul binary64 x (v j)) (e ⋆ g j) (e ⋆ M j)
  beside {x} {e} t j l f =
      let i : suc (1 + k) ≡ k + 2 = omega arith in
      let m = within_nn (near j l).size in
      subst (λ (n : ℕ). Close n (mul binary64 x (v j)) (e ⋆ g j) (e ⋆ M j)) i
      (close_mul (e ⋆ M j) f t.close (near j l) (≼_refl _) (≼_trans (clear.entry j l) (≼_mul β_nn m t.least (≼_refl (M j)))))

  -- An entry of a forward step.
  ahead : {x y z : Float} {d e h : ℚ} → Table β β_nn β-one 1 x d β → Table β β_nn β-one 1 y e β → Table β β_nn β-one (suc (length s.others)) z h p
      → (i j : ℕ) → i < 2 ^ w → j < 2 ^ w → T (finite (mul binary64 (add binary64 (mul binary64 x (v i)) (mul binary64 y (v j))) z))
      → Close (k + (length s.others + 5)) (mul binary64 (add binary64 (mul binary64 x (v i)) (mul binary64 y (v j))) z)
      ((d ⋆ g i ⊹ e ⋆ g j) ⋆ h) ((d ⋆ M i ⊹ e ⋆ M j) ⋆ h)
  unfolding p
  ahead {x} {y} {z} {d} {e} {h} a b t i j I J f =
      let f₁ = (mul_finite binary64 (add binary64 (mul binary64 x (v i)) (mul binary64 y (v j))) z f).0 in
      let f₂ = add_finite binary64 (mul binary64 x (v i)) (mul binary64 y (v j)) f₁ in
      let A = beside a i I f₂.0 in
      let B = beside b j J f₂.1 in
      let m = d ⋆ M i ⊹ e ⋆ M j in
      let m₁ : β ⋆ M i ≼ d ⋆ M i = ≼_mul β_nn (within_nn (near i I).size) a.least (≼_refl (M i)) in
      let m₂ : NonNeg (e ⋆ M j) = within_nn B.size in
      let m₃ : β ⋆ M i ≼ m = ≼_trans m₁ (≼-more (d ⋆ M i) (e ⋆ M j) m₂) in
      let m₄ : NonNeg m = nn_add _ _ (within_nn A.size) m₂ in
      let S = close_add m f₁ A B (≼_refl m) (≼_trans (clear.entry i I) m₃) in
      let low : p ⋆ (β ⋆ M i) ≼ m ⋆ h = subst (λ q. p ⋆ (β ⋆ M i) ≼ q) (*_comm h m) (≼_mul p_nn m₄ t.least m₃) in
      let n : suc (suc (k + 2) + suc (length s.others)) ≡ k + (length s.others + 5) = omega arith in
      subst (λ (n : ℕ). Close n (mul binary64 (add binary64 (mul binary64 x (v i)) (mul binary64 y (v j))) z) ((d ⋆ g i ⊹ e ⋆ g j) ⋆ h) (m ⋆ h)) n
      (close_mul (m ⋆ h) f S t.close (≼_refl _) (≼_trans (clear.result i I) low))

  -- An entry times a table's, and that times a factor of the left edge.
  through : {x z : Float} {e h : ℚ} → Table β β_nn β-one 1 x e β → Table β β_nn β-one (suc (length s.others)) z h p → (j : ℕ) → j < 2 ^ w
      → T (finite (mul binary64 x (mul binary64 (v j) z)))
      → Close (k + (length s.others + 4)) (mul binary64 x (mul binary64 (v j) z)) (e ⋆ (g j ⋆ h)) (e ⋆ (M j ⋆ h)) × (smallest ≼ e ⋆ (M j ⋆ h))
  unfolding p
  through {x} {z} {e} {h} a t j l f =
      let f₁ = (mul_finite binary64 x (mul binary64 (v j) z) f).1 in
      let m = within_nn (near j l).size in
      let low : p ⋆ (β ⋆ M j) ≼ e ⋆ (M j ⋆ h) = subst (λ q. q ≼ e ⋆ (M j ⋆ h)) (order β (M j) p)
      (≼_mul β_nn (nn_mul _ _ m t.nonneg) a.least (≼-times (M j) m t.least)) in
      let low₁ : p ⋆ (β ⋆ M j) ≼ M j ⋆ h = ≼_trans (subst (λ q. q ≼ M j ⋆ p) (order β (M j) p) (under (M j ⋆ p) (nn_mul _ _ m p_nn))) (≼-times (M j) m t.least) in
      let X = close_mul (M j ⋆ h) f₁ (near j l) t.close (≼_refl _) (≼_trans (clear.result j l) low₁) in
      let n : suc (1 + suc (k + suc (length s.others))) ≡ k + (length s.others + 4) = omega arith in
      let normal = ≼_trans (clear.result j l) low in (
        subst (λ (n : ℕ). Close n (mul binary64 x (mul binary64 (v j) z)) (e ⋆ (g j ⋆ h)) (e ⋆ (M j ⋆ h))) n
            (close_mul (e ⋆ (M j ⋆ h)) f a.close X (≼_refl _) normal),
        normal,
      )
    where
      order : (b m q : ℚ) → b ⋆ (m ⋆ q) ≡ q ⋆ (b ⋆ m)
      order b m q = simp sorted

      under : (q : ℚ) → NonNeg q → β ⋆ q ≼ q
      under q n = subst (λ z. β ⋆ q ≼ z) (one-* q) (≼_mul β_nn n β-one (≼_refl q))

  behind : {x y z₁ z₂ : Float} {d e h₁ h₂ : ℚ} → Table β β_nn β-one 1 x d β → Table β β_nn β-one 1 y e β
      → Table β β_nn β-one (suc (length s.others)) z₁ h₁ p → Table β β_nn β-one (suc (length s.others)) z₂ h₂ p
      → (i j : ℕ) → i < 2 ^ w → j < 2 ^ w → T (finite (add binary64 (mul binary64 x (mul binary64 (v i) z₁)) (mul binary64 y (mul binary64 (v j) z₂))))
      → Close (k + (length s.others + 5)) (add binary64 (mul binary64 x (mul binary64 (v i) z₁)) (mul binary64 y (mul binary64 (v j) z₂)))
      (d ⋆ (g i ⋆ h₁) ⊹ e ⋆ (g j ⋆ h₂)) (d ⋆ (M i ⋆ h₁) ⊹ e ⋆ (M j ⋆ h₂))
  behind {x} {y} {z₁} {z₂} {d} {e} {h₁} {h₂} a b t₁ t₂ i j I J f =
      let f₁ = add_finite binary64 (mul binary64 x (mul binary64 (v i) z₁)) (mul binary64 y (mul binary64 (v j) z₂)) f in
      let A = through a t₁ i I f₁.0 in
      let B = through b t₂ j J f₁.1 in
      let m = d ⋆ (M i ⋆ h₁) ⊹ e ⋆ (M j ⋆ h₂) in
      let n : suc (k + (length s.others + 4)) ≡ k + (length s.others + 5) = omega arith in
      subst (λ (n : ℕ). Close n (add binary64 (mul binary64 x (mul binary64 (v i) z₁)) (mul binary64 y (mul binary64 (v j) z₂)))
      (d ⋆ (g i ⋆ h₁) ⊹ e ⋆ (g j ⋆ h₂)) m) n
      (close_add m f A.0 B.0 (≼_refl m) (≼_trans A.1 (≼-more _ _ (within_nn B.0.size))))

  -- ---- the entries

  plus : Table β β_nn β-one 1 (ep ieee s.left) (ep rational (maybe_value s.left)) β
  plus = ep_table β β_nn β-one s.left moderate.left

  minus : T (finite (em ieee s.left)) → Table β β_nn β-one 1 (em ieee s.left) (em rational (maybe_value s.left)) β
  minus = em_table β β_nn β-one clear.left s.left moderate.left

  spin_up : (i : ℕ) → T (finite (up ieee s.others sc (pattern s.others i)))
      → Table β β_nn β-one (suc (length s.others)) (up ieee s.others sc (pattern s.others i))
      (up rational (map back_at_value s.others) c (pattern (map back_at_value s.others) i)) p
  unfolding p
  spin_up i f =
      subst (λ (m : ℕ). Table β β_nn β-one (suc (length s.others)) (up ieee s.others sc (pattern s.others i))
      (up rational (map back_at_value s.others) c m) p) (sym (pattern-value s.others i))
      (up_table β β_nn β-one s.others moderate.others sc c is c-nn clear.factors clear.table (pattern s.others i) f)

  spin_down : (i : ℕ) → T (finite (down ieee s.others sc (pattern s.others i)))
      → Table β β_nn β-one (suc (length s.others)) (down ieee s.others sc (pattern s.others i))
      (down rational (map back_at_value s.others) c (pattern (map back_at_value s.others) i)) p
  unfolding p
  spin_down i f =
      subst (λ (m : ℕ). Table β β_nn β-one (suc (length s.others)) (down ieee s.others sc (pattern s.others i))
      (down rational (map back_at_value s.others) c m) p) (sym (pattern-value s.others i))
      (down_table β β_nn β-one s.others moderate.others sc c is c-nn clear.factors clear.table (pattern s.others i) f)

  half : ℕ
  half = 2 ^ (w - 1)

  halves : 2 ^ w ≡ 2 * half
  unfolding half
  halves = pow_double w W

  -- Of two that a test chooses from.
  choose : {n : ℕ} {x y : Float} {a b d e : ℚ} (t : Bool) → (T (finite x) → Close n x a d) → (T (finite y) → Close n y b e)
      → T (finite (cond t x y)) → Close n (cond t x y) (cond t a b) (cond t d e)
  choose true p q f = p f
  choose false p q f = q f

  -- An entry of a forward step, and of a backward step: p + 5 roundings more, p being the number of near edges.
  pub forward_at-close : (j : ℕ) → j < 2 ^ w → T (finite (forward_at ieee w s sc v j))
      → Close (k + (length s.others + 5)) (forward_at ieee w s sc v j) (forward_at rational w (step_at_value s) c g j) (forward_at rational w (step_at_value s) c M j)
  unfolding forward_at half
  forward_at-close j l =
      let i = j / 2 in
      let I : i < 2 ^ w = omega arith in
      let J : half + i < 2 ^ w = omega (arith, halves) in
      let P = ep ieee s.left in
      let N = em ieee s.left in
      let U = up ieee s.others sc (pattern s.others i) in
      let D = down ieee s.others sc (pattern s.others i) in
      choose (bit 0 j)
      (λ f.
      let f₁ = mul_finite binary64 (add binary64 (mul binary64 N (v i)) (mul binary64 P (v (half + i)))) D f in
      let f₂ = add_finite binary64 (mul binary64 N (v i)) (mul binary64 P (v (half + i))) f₁.0 in
      let f₃ = mul_finite binary64 N (v i) f₂.0 in
      ahead (minus f₃.0) plus (spin_down i f₁.1) i (half + i) I J f)
      (λ f.
      let f₁ = mul_finite binary64 (add binary64 (mul binary64 P (v i)) (mul binary64 N (v (half + i)))) U f in
      let f₂ = add_finite binary64 (mul binary64 P (v i)) (mul binary64 N (v (half + i))) f₁.0 in
      let f₃ = mul_finite binary64 N (v (half + i)) f₂.1 in
      ahead plus (minus f₃.0) (spin_up i f₁.1) i (half + i) I J f)

  pub backward_at-close : (j : ℕ) → j < 2 ^ w → T (finite (backward_at ieee w s sc v j))
      → Close (k + (length s.others + 5)) (backward_at ieee w s sc v j) (backward_at rational w (step_at_value s) c g j) (backward_at rational w (step_at_value s) c M j)
  unfolding backward_at half
  backward_at-close j l =
      let i = j % half in
      let q : i < half = mod-lt j (pow_pos (w - 1)) in
      let I : 2 * i < 2 ^ w = omega (arith, halves) in
      let J : 2 * i + 1 < 2 ^ w = omega (arith, halves) in
      let P = ep ieee s.left in
      let N = em ieee s.left in
      let U = up ieee s.others sc (pattern s.others i) in
      let D = down ieee s.others sc (pattern s.others i) in
      let x = mul binary64 (v (2 * i)) U in
      let y = mul binary64 (v (2 * i + 1)) D in
      choose (ltb j half)
      (λ f.
      let f₁ = add_finite binary64 (mul binary64 P x) (mul binary64 N y) f in
      let f₂ = mul_finite binary64 P x f₁.0 in
      let f₃ = mul_finite binary64 N y f₁.1 in
      let f₄ = mul_finite binary64 (v (2 * i)) U f₂.1 in
      let f₅ = mul_finite binary64 (v (2 * i + 1)) D f₃.1 in
      behind plus (minus f₃.0) (spin_up i f₄.1) (spin_down i f₅.1) (2 * i) (2 * i + 1) I J f)
      (λ f.
      let f₁ = add_finite binary64 (mul binary64 N x) (mul binary64 P y) f in
      let f₂ = mul_finite binary64 N x f₁.0 in
      let f₃ = mul_finite binary64 P y f₁.1 in
      let f₄ = mul_finite binary64 (v (2 * i)) U f₂.1 in
      let f₅ = mul_finite binary64 (v (2 * i + 1)) D f₃.1 in
      behind (minus f₂.0) plus (spin_up i f₄.1) (spin_down i f₅.1) (2 * i) (2 * i + 1) I J f)
