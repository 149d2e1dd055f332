-- The strip of 01's settled examples, and its edges. They are proved here, beside the rules, so that a change of the rules meets them.
use Rattle.std.specs.Prelude.{◌≡◌, refl, false, List, [], ◌∷◌}
use Rattle.strip.specs.declared.kinds.Kind.TheVariants.{Square}
use Rattle.strip.specs.declared.strip.Strip.{Strip}
use Rattle.strip_bonds.specs.declared.Edge.{Edge}
use Rattle.strip_bonds.specs.Edges.{edge, across, wrap, along, rising, falling, edges_below, edges}

-- square 2 by 2, free
abbrev pub square : Strip
square = record { kind = Square; w = 2; l = 2; periodic = false }

-- 0-1, 0-2, 1-3, 2-3
abbrev pub square_edges : List Edge
square_edges = edge 0 1 ∷ edge 0 2 ∷ edge 1 3 ∷ edge 2 3 ∷ []

abbrev pub EdgesOfSquare : Type 0
EdgesOfSquare = edges square ≡ square_edges

pub edges-of-square : EdgesOfSquare
unfolding edges_below across wrap along rising falling
edges-of-square = refl
