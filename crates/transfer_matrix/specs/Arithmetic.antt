-- An arithmetic that the sweeps are written over. At binary64 (Rounded) they are what the code computes, bit for bit; at exact fractions
-- (Exact) they are what the textbook says.
use Rattle.std.specs.Prelude.{Bool, cond, ℕ, zero, suc}

pub record Ops : Type 1 where
  pub K : Type 0
  pub 𝟘 : K
  pub 𝟙 : K
  pub ◌⊕◌ : K → K → K
  pub ◌⊖◌ : K → K → K
  pub ◌⊗◌ : K → K → K
  pub ◌⊘◌ : K → K → K
  pub ⊝◌ : K → K
  -- less than, as a test
  pub ◌≺◌ : K → K → Bool

module _ (O : Ops) where
  open O use {K, 𝟘, ◌⊕◌, ◌⊖◌}

  infixl 60 ◌⊕◌
  infixl 60 ◌⊖◌
  -- f 0 + f 1 + .. + f (n - 1), in index order from zero
  unfoldable pub sum : ℕ → (ℕ → K) → K
  sum zero f = 𝟘
  sum (suc n) f = sum n f ⊕ f n

  -- the same, the terms that the test names subtracted
  unfoldable pub signed_sum : ℕ → (ℕ → Bool) → (ℕ → K) → K
  signed_sum zero minus f = 𝟘
  signed_sum (suc n) minus f = cond (minus n) (signed_sum n minus f ⊖ f n) (signed_sum n minus f ⊕ f n)
