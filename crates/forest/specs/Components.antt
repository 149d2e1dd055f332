-- How many components a graph has: the vertices that are their own label when every edge has merged its two.
-- Each tree edge makes of two components one, so trees and components together are as many as the vertices.
use Rattle.std.specs.Prelude.{Bool, List, ℕ, ◌-◌, eqb, length}
use Rattle.list_laws.specs.Count.{count}
use Rattle.forest.specs.Labels.{labels}

-- whether v is the vertex that stands for its component: its label after the first i edges is v itself
abbrev pub stands : List ℕ → List ℕ → ℕ → ℕ → Bool
stands early late i v = eqb (labels early late i v) v

-- the number of components of the vertices 0 to n - 1
unfoldable pub component_count : ℕ → List ℕ → List ℕ → ℕ
component_count n early late = count (stands early late (length early)) n
