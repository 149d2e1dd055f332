-- Walks in a graph, and the distance of two vertices: the least length of a walk.
-- The edge at j joins the j-th entries of two lists, `early` and `late`.
use Rattle.std.specs.Prelude.{◌≡◌, Option, Some, None, List, ℕ, zero, suc, ◌<◌, length, get_or}

-- the edges' ends are vertices below n
abbrev pub Inside : List ℕ → List ℕ → ℕ → Type 0
Inside early late n = (j : ℕ) → j < length early → (get_or early j 0 < n) × (get_or late j 0 < n)

-- vertices that an edge joins, in either direction
pub data Adjacent (early late : List ℕ) : ℕ → ℕ → Type 0 where
  along : (j : ℕ) → j < length early → Adjacent early late (get_or early j 0) (get_or late j 0)
  back : (j : ℕ) → j < length early → Adjacent early late (get_or late j 0) (get_or early j 0)

-- a walk of k edges from u to v
unfoldable pub Walk : List ℕ → List ℕ → ℕ → ℕ → ℕ → Type 0
Walk early late zero u v = u ≡ v
Walk early late (suc k) u v = (w : ℕ) × Walk early late k u w × Adjacent early late w v

-- the right answer: the length of a walk where none is shorter, or that there is no walk
abbrev pub Distance : List ℕ → List ℕ → ℕ → ℕ → Option ℕ → Type 0
Distance early late u v (Some k) = Walk early late k u v × ((j : ℕ) → j < k → Walk early late j u v → ⊥)
Distance early late u v None = (k : ℕ) → Walk early late k u v → ⊥
