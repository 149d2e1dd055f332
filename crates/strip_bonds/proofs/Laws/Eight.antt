-- Small strips of eight neighbours and their edges, in 02's order. They are proved here, beside the rules, so that a change of the rules meets them.
use Rattle.std.specs.Prelude.{◌≡◌, refl, Bool, true, false, List, [], ◌∷◌, ℕ}
use Rattle.strip.specs.declared.kinds.Kind.TheVariants.{Eight}
use Rattle.strip.specs.declared.strip.Strip.{Strip}
use Rattle.strip_bonds.specs.declared.Edge.{Edge}
use Rattle.strip_bonds.specs.Edges.{edge, across, wrap, along, rising, falling, edges_below, edges}

-- two columns, free or a cylinder
abbrev pub eight : ℕ → Bool → Strip
eight w periodic = record { kind = Eight; w = w; l = 2; periodic = periodic }

-- 2 by 2: each vertex with each other
abbrev pub four_edges : List Edge
four_edges = edge 0 1 ∷ edge 0 2 ∷ edge 0 3 ∷ edge 1 2 ∷ edge 1 3 ∷ edge 2 3 ∷ []

-- 3 by 2, a cylinder: each vertex with each other, the diagonals 2-3 and 0-5 and the edges 0-2 and 3-5 going round
abbrev pub six_edges : List Edge
six_edges =
    edge 0 1 ∷ edge 0 3 ∷ edge 0 4 ∷ edge 1 3
    ∷ edge 1 2 ∷ edge 1 4 ∷ edge 1 5 ∷ edge 2 4
    ∷ edge 0 2 ∷ edge 2 5 ∷ edge 2 3 ∷ edge 0 5
    ∷ edge 3 4 ∷ edge 4 5 ∷ edge 3 5 ∷ []

-- 3 by 2, free: nothing goes round
abbrev pub open_edges : List Edge
open_edges =
    edge 0 1 ∷ edge 0 3 ∷ edge 0 4 ∷ edge 1 3
    ∷ edge 1 2 ∷ edge 1 4 ∷ edge 1 5 ∷ edge 2 4
    ∷ edge 2 5
    ∷ edge 3 4 ∷ edge 4 5 ∷ []

pub edges-of-eight : edges (eight 2 false) ≡ four_edges
unfolding edges_below across wrap along rising falling
edges-of-eight = refl

-- a cylinder of width 2 does not go round
pub edges-of-narrow-eight : edges (eight 2 true) ≡ four_edges
unfolding edges_below across wrap along rising falling
edges-of-narrow-eight = refl

pub edges_of_round_eight : edges (eight 3 true) ≡ six_edges
unfolding edges_below across wrap along rising falling
edges_of_round_eight = refl

pub edges_of_open_eight : edges (eight 3 false) ≡ open_edges
unfolding edges_below across wrap along rising falling
edges_of_open_eight = refl
