-- The roots of a forest, as bits.
use Rattle.std.specs.Prelude.{Bool, ◌&&◌, List, ℕ, ◌*◌, eqb, ltb, length}
use Rattle.list_laws.specs.Tabulate.{tabulate}
use Rattle.union_find.specs.Forest.{parent}
use Rattle.forest.specs.Lowest.{bits}

-- whether v is a vertex of the forest and its own parent
abbrev pub is_root : List ℕ → ℕ → Bool
is_root p v = ltb v (length p) && eqb (parent p v) v

-- sixteen words with a bit for each root: vertex v is bit v mod 64 of word v / 64
abbrev pub root_marks : List ℕ → List ℕ
root_marks p = tabulate (λ k. bits (is_root p) (64 * k) 64) 16
