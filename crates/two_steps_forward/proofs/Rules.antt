-- The four entries that two forward steps make at a place.
use mathlib.Core.Path.{◌≡◌, refl, sym, ◌∙◌}
use Prim.Native.Nat.{ℕ, ◌+◌, ◌*◌}
use native.Mathlib.Omega.{arith}
use lib.Ieee.{Float}
use Rattle.step_tables.specs.Rule.{blend, forward_rule}
use Rattle.step_tables.proofs.Laws.Rules.{rule_even, rule-odd}
use Rattle.two_steps_forward.specs.Rule.{half_twice}

-- what is known at place i of the weights and entries of two forward steps
pub record At (p q r s e f a b c d : ℕ → Float) (i : ℕ) (p' q' r' s' e₀ e₁ f₀ f₁ a' b' c' d' : Float) : Type 0 where
  pub p_is : p i ≡ p'
  pub q_is : q i ≡ q'
  pub r_is : r i ≡ r'
  pub s-is : s i ≡ s'
  pub e_even : e (2 * i) ≡ e₀
  pub e_odd : e (2 * i + 1) ≡ e₁
  pub f_even : f (2 * i) ≡ f₀
  pub f_odd : f (2 * i + 1) ≡ f₁
  pub a-is : a i ≡ a'
  pub b-is : b i ≡ b'
  pub c-is : c i ≡ c'
  pub d_is : d i ≡ d'

module _ (ep sem em sep ep₂ sem₂ em₂ sep₂ : Float) {p q r s e f a b c d : ℕ → Float} {i : ℕ} {p' q' r' s' e₀ e₁ f₀ f₁ a' b' c' d' : Float}
    (h : At p q r s e f a b c d i p' q' r' s' e₀ e₁ f₀ f₁ a' b' c' d') where
  abbrev twice : ℕ → Float
  twice = half_twice ep sem em sep ep₂ sem₂ em₂ sep₂ p q r s e f a b c d

  front_even : forward_rule ep sem em sep p q a b (2 * i) ≡ blend ep sem p' a' b'
  front_even = rule_even ep sem em sep p q a b (2 * i) i refl ∙ rw (h.p_is, h.a-is, h.b-is)

  front-odd : forward_rule ep sem em sep p q a b (2 * i + 1) ≡ blend em sep q' a' b'
  front-odd = rule-odd ep sem em sep p q a b (2 * i + 1) i refl ∙ rw (h.q_is, h.a-is, h.b-is)

  back_even : forward_rule em sep ep sem s r d c (2 * i) ≡ blend em sep s' d' c'
  back_even = rule_even em sep ep sem s r d c (2 * i) i refl ∙ rw (h.s-is, h.c-is, h.d_is)

  back-odd : forward_rule em sep ep sem s r d c (2 * i + 1) ≡ blend ep sem r' d' c'
  back-odd = rule-odd em sep ep sem s r d c (2 * i + 1) i refl ∙ rw (h.r_is, h.c-is, h.d_is)

  pub twice-0 : (j : ℕ) → j ≡ 4 * i → blend ep₂ sem₂ e₀ (blend ep sem p' a' b') (blend em sep s' d' c') ≡ twice j
  twice-0 j g = sym (rule_even ep₂ sem₂ em₂ sep₂ e f _ _ j (2 * i) (omega arith) ∙ rw (h.e_even, front_even, back_even))

  pub twice-1 : (j : ℕ) → j ≡ 4 * i + 1 → blend em₂ sep₂ f₀ (blend ep sem p' a' b') (blend em sep s' d' c') ≡ twice j
  twice-1 j g = sym (rule-odd ep₂ sem₂ em₂ sep₂ e f _ _ j (2 * i) (omega arith) ∙ rw (h.f_even, front_even, back_even))

  pub twice-2 : (j : ℕ) → j ≡ 4 * i + 2 → blend ep₂ sem₂ e₁ (blend em sep q' a' b') (blend ep sem r' d' c') ≡ twice j
  twice-2 j g = sym (rule_even ep₂ sem₂ em₂ sep₂ e f _ _ j (2 * i + 1) (omega arith) ∙ rw (h.e_odd, front-odd, back-odd))

  pub twice-3 : (j : ℕ) → j ≡ 4 * i + 3 → blend em₂ sep₂ f₁ (blend em sep q' a' b') (blend ep sem r' d' c') ≡ twice j
  twice-3 j g = sym (rule-odd ep₂ sem₂ em₂ sep₂ e f _ _ j (2 * i + 1) (omega arith) ∙ rw (h.f_odd, front-odd, back-odd))
