-- Labels of the vertices, merged edge by edge: two vertices have one label exactly where a path joins them.
use Rattle.std.specs.Prelude.{Bool, not, List, ℕ, zero, suc, eqb}
use Rattle.union_find.specs.Merging.{merge}
use Rattle.forest.specs.Paths.{end}

-- the label of v after the first i edges: each edge turns its early end's label into its late end's
unfoldable pub labels : List ℕ → List ℕ → ℕ → ℕ → ℕ
labels early late zero v = v
labels early late (suc i) v = merge (labels early late i) (end early i) (end late i) v

-- whether the ends of edge e have two labels before it
unfoldable pub is_tree : List ℕ → List ℕ → ℕ → Bool
is_tree early late e = not (eqb (labels early late e (end early e)) (labels early late e (end late e)))
