-- The terms of the sums at a vertex, from the lower halves of its vectors.
use Rattle.std.specs.Prelude.{Bool, List, ℕ, ◌*◌, ◌^◌, Float}
use Rattle.step_tables.specs.Rule.{entries}
use Rattle.half_vectors.specs.Half.{there_and_back}
use Rattle.half_vectors.specs.Sums.{half_products, differ}

-- the half at place p
abbrev pub half_at : List Float → ℕ → ℕ → ℕ → Float
half_at r w p = entries r (p * 2 ^ w)

-- the products of the halves h and k, there and back
abbrev pub terms : ℕ → (ℕ → Float) → (ℕ → Float) → ℕ → Float
terms w h k = there_and_back w (half_products h k)

-- where a term is subtracted in N: bits 0 and d of the half's index differ
abbrev pub signs : ℕ → ℕ → ℕ → Bool
signs w d = there_and_back w (differ d)
