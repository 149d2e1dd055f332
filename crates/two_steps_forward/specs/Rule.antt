-- The rule by which two forward steps at once fill a half vector.
use Rattle.std.specs.Prelude.{ℕ, Float}
use Rattle.step_tables.specs.Rule.{forward_rule}

-- The second step, by e and f, takes what the first made at the front of the half by p and q, from the entries a and b, and what it made at
-- the end, counted from there, by r and s, from d and c.
abbrev pub half_twice : (ep sem em sep ep' sem' em' sep' : Float) (p q r s e f a b c d : ℕ → Float) → ℕ → Float
half_twice ep sem em sep ep' sem' em' sep' p q r s e f a b c d = forward_rule ep' sem' em' sep' e f (forward_rule ep sem em sep p q a b) (forward_rule em sep ep sem s r d c)
