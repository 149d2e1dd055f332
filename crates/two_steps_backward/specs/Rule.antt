-- The rules by which two backward steps at once fill a half vector: the second step's rule over what the first step's rule gives.
use Rattle.std.specs.Prelude.{ℕ, ◌+◌, ◌*◌, Float}
use Rattle.step_tables.specs.Rule.{mix, backward_rule}

-- From the entries v: the step at the later vertex comes first, with z, u, e and f; then the other, with x, y, p and q, from a pair at the
-- front of what the first made,
abbrev pub front_twice : (x y z u : Float) (p q e f v : ℕ → Float) → ℕ → Float
front_twice x y z u p q e f v = backward_rule x y p q (backward_rule z u e f v)

-- or from a pair at the end, which counted from there is the other way round.
unfoldable pub end_twice : (x y z u : Float) (p q e f v : ℕ → Float) → ℕ → Float
end_twice x y z u p q e f v k = let g = backward_rule z u e f v in mix x y (p k) (q k) (g (2 * k + 1)) (g (2 * k))
