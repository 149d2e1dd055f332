-- What a comparison of kinds answers.
use Rattle.std.specs.Prelude.{◌≡◌, refl}
use denote.Enum.Bare.{sameb}
use Rattle.strip.specs.contracts.kinds.Kind.{the_type}
use Rattle.strip.specs.declared.kinds.Kind.{Kind}
use Rattle.strip.specs.declared.kinds.Kind.TheVariants.{Square, Tri, Honey, Eight}
use Rattle.strip.specs.Kinds.{is_honey, is_tri, is_eight}

pub same-honey : (k : Kind) → sameb the_type k Honey ≡ is_honey k
same-honey Square = refl
same-honey Tri = refl
same-honey Honey = refl
same-honey Eight = refl

pub same-tri : (k : Kind) → sameb the_type k Tri ≡ is_tri k
same-tri Square = refl
same-tri Tri = refl
same-tri Honey = refl
same-tri Eight = refl

pub same-eight : (k : Kind) → sameb the_type k Eight ≡ is_eight k
same-eight Square = refl
same-eight Tri = refl
same-eight Honey = refl
same-eight Eight = refl
