-- Tests of a kind.
use Rattle.std.specs.Prelude.{Bool, true, false}
use Rattle.strip.specs.declared.kinds.Kind.{Kind}
use Rattle.strip.specs.declared.kinds.Kind.TheVariants.{Square, Tri, Honey, Eight}

abbrev pub is_honey : Kind → Bool
is_honey Square = false
is_honey Tri = false
is_honey Honey = true
is_honey Eight = false

abbrev pub is_tri : Kind → Bool
is_tri Square = false
is_tri Tri = true
is_tri Honey = false
is_tri Eight = false

-- a site has eight neighbours: both diagonals
abbrev pub is_eight : Kind → Bool
is_eight Square = false
is_eight Tri = false
is_eight Honey = false
is_eight Eight = true
