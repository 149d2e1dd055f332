-- Four weights alternately, at each of the four places.
use Rattle.std.specs.Prelude.{◌≡◌, ℕ, ◌/◌, ◌%◌, Float}
use Rattle.std.proofs.Common.{◌∙◌, arith}
use Rattle.step_tables.proofs.Laws.Rules.{alternating_even, alternating-odd}
use Rattle.step_runs.specs.Rule.{in_four}

module _ (p₀ p₁ p₂ p₃ : Float) (k : ℕ) where
  pub four-0 : k % 4 ≡ 0 → in_four p₀ p₁ p₂ p₃ k ≡ p₀
  unfolding in_four
  four-0 h = alternating_even _ _ k (omega arith) ∙ alternating_even p₀ p₂ (k / 2) (omega arith)

  pub four-1 : k % 4 ≡ 1 → in_four p₀ p₁ p₂ p₃ k ≡ p₁
  unfolding in_four
  four-1 h = alternating-odd _ _ k (omega arith) ∙ alternating_even p₁ p₃ (k / 2) (omega arith)

  pub four-2 : k % 4 ≡ 2 → in_four p₀ p₁ p₂ p₃ k ≡ p₂
  unfolding in_four
  four-2 h = alternating_even _ _ k (omega arith) ∙ alternating-odd p₀ p₂ (k / 2) (omega arith)

  pub four-3 : k % 4 ≡ 3 → in_four p₀ p₁ p₂ p₃ k ≡ p₃
  unfolding in_four
  four-3 h = alternating-odd _ _ k (omega arith) ∙ alternating-odd p₁ p₃ (k / 2) (omega arith)
