-- The rules by which the inner loops of a step fill a vector, over any weights and entries: a run and a whole step are cases of one rule.
use Rattle.std.specs.Prelude.{cond, List, ℕ, ◌+◌, ◌*◌, ◌-◌, ◌/◌, get_or, Float}
use Rattle.std.specs.Float.{nan, binary64}
use Rattle.std.specs.Float.Ieee.{add, mul}
use Rattle.list_laws.specs.Bits.{bit}
use Rattle.step_tables.specs.Step.{pattern_by}

-- the entries of d from index at on
abbrev pub entries : List Float → ℕ → ℕ → Float
entries d at i = get_or d (at + i) nan

-- the n entries of d from index at on, counted from their end
abbrev pub from_end : List Float → (at n : ℕ) → ℕ → Float
from_end d at n i = get_or d (at + (n - 1 - i)) nan

-- the weight that a table gives to the pattern of k
abbrev pub weights : List ℕ → ℕ → List Float → ℕ → Float
weights bits n table k = get_or table (pattern_by bits n k) nan

-- p at even places, q at odd ones
unfoldable pub alternating : Float → Float → ℕ → Float
alternating p q i = cond (bit 0 i) q p

-- (x a + y b) p, each operation rounded once
unfoldable pub blend : (x y p a b : Float) → Float
blend x y p a b = mul binary64 (add binary64 (mul binary64 x a) (mul binary64 y b)) p

-- Forward: from the entries a and b, at even places with the coefficients ep and sem and the weights p, at odd ones with em, sep and q. Where
-- the half is antisymmetric sem and sep are em and ep negated, else they are em and ep: b is read from the other half.
unfoldable pub forward_rule : (ep sem em sep : Float) (p q a b : ℕ → Float) → ℕ → Float
forward_rule ep sem em sep p q a b j = let k = j / 2 in cond (bit 0 j) (blend em sep (q k) (a k) (b k)) (blend ep sem (p k) (a k) (b k))

-- x (s p) + y (t q), each operation rounded once
unfoldable pub mix : (x y p q s t : Float) → Float
mix x y p q s t = add binary64 (mul binary64 x (mul binary64 s p)) (mul binary64 y (mul binary64 t q))

-- Backward, one half: from the pairs of v, with the weights p for spin up and q for spin down.
unfoldable pub backward_rule : (x y : Float) (p q v : ℕ → Float) → ℕ → Float
unfolding mix
backward_rule x y p q v k = mix x y (p k) (q k) (v (2 * k)) (v (2 * k + 1))
