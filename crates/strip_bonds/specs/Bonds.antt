-- What a rule gives, as a list.
use Rattle.std.specs.Prelude.{Option, Some, None, List, [], ◌∷◌}
use Rattle.strip_bonds.specs.declared.Edge.{Edge}

abbrev pub listed : Option Edge → List Edge
listed (Some e) = e ∷ []
listed None = []
