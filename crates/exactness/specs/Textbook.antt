-- What the textbook says of a pair, from document 01's own sentence. It shares nothing with the sweeps but the job.
use Rattle.std.specs.Prelude.{Bool, true, false, cond, List, [], ◌∷◌, ℕ, zero, suc, eqb}
use Rattle.std.specs.Bool.{beq}
use Rattle.transfer_matrix.specs.Arithmetic.{Ops}
use Rattle.transfer_matrix.specs.Job.{Edge, Job}

-- A spin setting: which vertices are down.
abbrev pub Setting : Type 0
Setting = ℕ → Bool

-- The setting s with vertex v set.
abbrev pub put : Setting → ℕ → Bool → Setting
put s v down i = cond (eqb i v) down (s i)

module _ (O : Ops) where
  open O use {K, 𝟙, ◌⊕◌, ◌⊗◌, ◌⊘◌, ⊝◌}

  infixl 60 ◌⊕◌
  infixl 70 ◌⊗◌
  infixl 70 ◌⊘◌
  infixl 80 ⊝◌
  -- The sum of f over all settings of the vertices below n.
  unfoldable pub over_settings : ℕ → (Setting → K) → K
  over_settings zero f = f (λ i. false)
  over_settings (suc n) f = over_settings n (λ s. f (put s n false)) ⊕ over_settings n (λ s. f (put s n true))

  abbrev pub spin : Setting → ℕ → K
  spin s v = cond (s v) (⊝ 𝟙) 𝟙

  -- A spin setting weighs the product, over kept edges, of the factor where the ends agree and of one over it where they differ.
  unfoldable pub weight : List (Edge K) → Setting → K
  weight [] s = 𝟙
  weight (e ∷ es) s = cond (beq (s e.early) (s e.late)) e.factor (𝟙 ⊘ e.factor) ⊗ weight es s

  -- The sum of weights.
  abbrev pub partition_sum : Job K → K
  partition_sum J = over_settings (suc J.last) (weight J.edges)

  -- The sum of weights times both spins of the pair is divided by the sum of weights.
  unfoldable pub textbook : Job K → ℕ → ℕ → K
  unfolding over_settings weight
  textbook J u v = over_settings (suc J.last) (λ s. weight J.edges s ⊗ (spin s u ⊗ spin s v)) ⊘ partition_sum J
