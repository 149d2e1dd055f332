-- The last arm of a match on the numbers from 0 on.
use Rattle.std.specs.Prelude.{◌≡◌, ℕ, zero, suc, ◌≤◌}
use Rattle.std.proofs.Common.{arith}

-- i is none of the first k numbers
abbrev pub NoneOf : ℕ → ℕ → Type 0
NoneOf zero i = Unit
NoneOf (suc k) i = NoneOf k i × (i ≡ k → ⊥)

pub past_all : (k i : ℕ) → NoneOf k i → k ≤ i
past_all zero i n = omega arith
past_all (suc k) i n = omega (arith, past_all k i n.0, n.1)
