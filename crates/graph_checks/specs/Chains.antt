-- The edges by their later end: each edge leads to the edge before it with the same later end, so that parallel edges are found near by.
use Rattle.std.specs.Prelude.{◌≡◌, ◌⊎◌, List, ℕ, ◌-◌, ◌≤◌, ◌<◌, length, get_or}

-- k is one more than the last edge before e that ends at v, or 0
pub record LastAt (late : List ℕ) (e v k : ℕ) : Type 0 where
  pub before : k ≤ e
  pub ends : (k ≡ 0) ⊎ (get_or late (k - 1) 0 ≡ v)
  pub after : (f : ℕ) → k ≤ f → f < e → get_or late f 0 ≡ v → ⊥

-- `next` leads from each edge before e to the one before it with its later end
abbrev pub Chain : List ℕ → List ℕ → ℕ → Type 0
Chain late next e = (f : ℕ) → f < e → LastAt late f (get_or late f 0) (get_or next f 0)

-- `heads` leads from each vertex to its last edge before e
abbrev pub Heads : List ℕ → List ℕ → ℕ → Type 0
Heads late heads e = (v : ℕ) → v < length heads → LastAt late e v (get_or heads v 0)
