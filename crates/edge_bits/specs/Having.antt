-- What a kept edge has in an enumeration: a bit of the configuration's number, or none where it is a tree edge.
use Rattle.std.specs.Prelude.{Bool, not, ℕ, eqb}

-- In the place of a bit: a tree edge, which has none. No edge has so high a bit.
abbrev pub tree : ℕ
tree = 18446744073709551615

-- Whether an edge has a bit.
abbrev pub has_bit : ℕ → Bool
has_bit b = not (eqb b tree)
