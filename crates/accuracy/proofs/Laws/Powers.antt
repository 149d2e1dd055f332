-- Powers of a fraction β up to one, and what the factors of one vertex come to at least: θ.
use Rattle.std.specs.Prelude.{◌≡◌}
use Rattle.std.proofs.Common.{sym, ◌∙◌, ap, add-zero, add-suc, arith}
use Rattle.std.proofs.Math.Path.{subst}
use Prim.Native.Nat.{ℕ, zero, suc, ◌+◌, ◌≤◌}
use Rattle.fraction.proofs.Fraction.{ℚ, oneℚ, Posℚ}
use Rattle.fraction.proofs.Laws.Fraction.{pos_one, pos_mul}
use Rattle.accuracy.specs.Ring.{NonNeg}
use Rattle.accuracy.proofs.Laws.Ring.{◌⋆◌, ◌≼◌, ≼_refl, ≼_mul, nn_mul, *-one, one-*, nn_one, *_assoc}

-- b to the n.
unfoldable pub power : ℚ → ℕ → ℚ
power b zero = oneℚ
power b (suc n) = power b n ⋆ b

pub power-first : (b : ℚ) → power b 1 ≡ b
unfolding power
power-first b = one-* b

pub power_add : (b : ℚ) (m n : ℕ) → power b (m + n) ≡ power b m ⋆ power b n
unfolding power
power_add b m zero = ap (power b) (add-zero m) ∙ sym (*-one (power b m))
power_add b m (suc n) = ap (power b) (add-suc m n) ∙ ap (λ z. z ⋆ b) (power_add b m n) ∙ *_assoc (power b m) (power b n) b

pub power_pos : (b : ℚ) → Posℚ b → (n : ℕ) → Posℚ (power b n)
unfolding power
power_pos b h zero = pos_one
power_pos b h (suc n) = pos_mul _ _ (power_pos b h n) h

module _ (β : ℚ) (β_nn : NonNeg β) (β-one : β ≼ oneℚ) where
  pub power_nn : (n : ℕ) → NonNeg (power β n)
  unfolding power
  power_nn zero = nn_one
  power_nn (suc n) = nn_mul _ _ (power_nn n) β_nn

  pub power-one : (n : ℕ) → power β n ≼ oneℚ
  unfolding power
  power-one zero = ≼_refl oneℚ
  power-one (suc n) = subst (λ x. power β n ⋆ β ≼ x) (*-one oneℚ) (≼_mul (power_nn n) nn_one (power-one n) β-one)

  -- The more factors, the less.
  pub power_less : (p n : ℕ) → n ≤ p → power β p ≼ power β n
  unfolding power
  power_less zero zero h = ≼_refl oneℚ
  power_less zero (suc n) h = absurd (omega arith)
  power_less (suc p) zero h = power-one (suc p)
  power_less (suc p) (suc n) h = ≼_mul (power_nn p) β_nn (power_less p n (omega arith)) (≼_refl β)

-- The least that the factors of one vertex come to, with p near edges and a left one, each β or more.
abbrev pub θ : ℚ → ℕ → ℚ
θ β p = β ⋆ power β p

-- The ratio of two entries that one vertex of the window allows.
abbrev pub σ : ℚ → ℕ → ℚ
σ β p = θ β p ⋆ θ β p

module _ (β : ℚ) (β_nn : NonNeg β) (β-one : β ≼ oneℚ) (p : ℕ) where
  pub θ_nn : NonNeg (θ β p)
  θ_nn = nn_mul _ _ β_nn (power_nn β β_nn β-one p)

  pub θ-one : θ β p ≼ oneℚ
  θ-one = subst (λ z. θ β p ≼ z) (*-one oneℚ) (≼_mul β_nn nn_one β-one (power-one β β_nn β-one p))

  pub σ_nn : NonNeg (σ β p)
  σ_nn = nn_mul _ _ θ_nn θ_nn

  pub σ-one : σ β p ≼ oneℚ
  σ-one = subst (λ z. σ β p ≼ z) (*-one oneℚ) (≼_mul θ_nn nn_one θ-one θ-one)
