-- A forest over the vertices 0 to n - 1, as the list of their parents: a root is its own parent. What the union-find functions do to it.
use Rattle.std.specs.Prelude.{◌≡◌, Bool, cond, not, List, [], ◌∷◌, ℕ, zero, suc, ◌+◌, ◌<◌, eqb, length, get_or}
use Rattle.union_find.specs.Merging.{merge, merge_lower}

abbrev pub parent : List ℕ → ℕ → ℕ
parent p v = get_or p v 0

-- k steps up from v
unfoldable pub climb : List ℕ → ℕ → ℕ → ℕ
climb p zero v = v
climb p (suc k) v = climb p k (parent p v)

-- 1 where the vertex v with the parent y is no root
abbrev pub link : ℕ → ℕ → ℕ
link v y = cond (eqb y v) 0 1

-- how many vertices are not their own parent, where the list's first is vertex v
unfoldable pub links : ℕ → List ℕ → ℕ
links v [] = 0
links v (y ∷ p) = link v y + links (suc v) p

-- where the climb from v ends: no climb is longer than there are links
unfoldable pub root : List ℕ → ℕ → ℕ
root p v = climb p (links 0 p) v

-- no parent is outside, and every climb ends at a vertex that is its own parent
pub record Forest (p : List ℕ) : Type 0 where
  pub inside : (v : ℕ) → v < length p → parent p v < length p
  pub settles : (v : ℕ) → v < length p → parent p (root p v) ≡ root p v

-- every vertex is its own parent
abbrev pub Fresh : List ℕ → Type 0
Fresh p = (v : ℕ) → v < length p → parent p v ≡ v

-- q is a forest with the same vertices and the same roots as p
pub record Kept (p q : List ℕ) : Type 0 where
  pub len : length q ≡ length p
  pub forest : Forest q
  pub same : (v : ℕ) → v < length p → root q v ≡ root p v

-- `find` answers the root r above v and changes no root
pub record Found (p : List ℕ) (v r : ℕ) (q : List ℕ) : Type 0 where
  pub kept : Kept p q
  pub is : r ≡ root p v
  pub own : parent q r ≡ r
  pub inside : r < length p

-- `union` gives the vertices under a's root the root of b, changes no other root, and answers whether the two roots differed
pub record Merged (p : List ℕ) (a b : ℕ) (r : Bool) (q : List ℕ) : Type 0 where
  pub len : length q ≡ length p
  pub forest : Forest q
  pub roots : (v : ℕ) → v < length p → root q v ≡ merge (root p) a b v
  pub is : r ≡ not (eqb (root p a) (root p b))

-- `union_lower` gives the vertices under the higher of the two roots the lower one
pub record MergedLower (p : List ℕ) (a b : ℕ) (r : Bool) (q : List ℕ) : Type 0 where
  pub len : length q ≡ length p
  pub forest : Forest q
  pub roots : (v : ℕ) → v < length p → root q v ≡ merge_lower (root p) a b v
  pub is : r ≡ not (eqb (root p a) (root p b))

-- A forest of n vertices whose roots are these labels
pub record Labelled (n : ℕ) (label : ℕ → ℕ) (p : List ℕ) : Type 0 where
  pub len : length p ≡ n
  pub forest : Forest p
  pub roots : (v : ℕ) → v < n → root p v ≡ label v
