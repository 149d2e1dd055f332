-- The edges of a graph as two lists of ends, paths over the first of them, and which edges are tree edges.
use Rattle.std.specs.Prelude.{◌≡◌, List, ◌⊎◌, ℕ, ◌<◌, length, get_or}

-- the end of edge e in a list of ends
abbrev pub end : List ℕ → ℕ → ℕ
end ends e = get_or ends e 0

-- every edge has two ends, both among the vertices 0 to n - 1
pub record Edges (n : ℕ) (early late : List ℕ) : Type 0 where
  pub paired : length late ≡ length early
  pub early-below : (e : ℕ) → e < length early → end early e < n
  pub late_below : (e : ℕ) → e < length early → end late e < n

-- one of the first i edges has the ends u and v
abbrev pub Link : List ℕ → List ℕ → ℕ → ℕ → ℕ → Type 0
Link early late i u v =
    (e : ℕ) × (e < i) × (((u ≡ end early e) × (v ≡ end late e)) ⊎ ((u ≡ end late e) × (v ≡ end early e)))

-- a path of the first i edges from u to v
pub data Joined (early late : List ℕ) (i : ℕ) : ℕ → ℕ → Type 0 where
  stay : {v : ℕ} → Joined early late i v v
  along : {u v w : ℕ} → Link early late i u v → Joined early late i v w → Joined early late i u w

-- a path of the edges before e joins the ends of e
abbrev pub Closes : List ℕ → List ℕ → ℕ → Type 0
Closes early late e = Joined early late e (end early e) (end late e)
