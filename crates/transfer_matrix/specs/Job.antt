-- A job of one configuration: the kept edges with their factors, the window and the manner. And what a step reads of it.
use Rattle.std.specs.Prelude.{Bool, cond, ◌&&◌, List, [], ◌∷◌, ℕ, zero, suc, ◌+◌, ◌-◌, max, eqb, ltb, length, get_or}
use Rattle.std.proofs.Math.Option.{Option, none, some}
use Rattle.list_laws.specs.Most.{most}
use Rattle.list_laws.specs.Search as Search

-- A kept edge, its smaller end first, with the factor in use.
pub record Edge (K : Type 0) : Type 0 where
  pub early : ℕ
  pub late : ℕ
  pub factor : K

-- How often a sweep is rescaled: in the block manner every fourth step, in the per-element manner every step.
pub data Manner : Type 0 where
  block per_element : Manner

-- The vertices are 0 to `last`.
pub record Job (K : Type 0) : Type 0 where
  pub last : ℕ
  pub window : ℕ
  pub edges : List (Edge K)
  pub manner : Manner

-- The longest kept edge, or 0. The kept edges' ends come in two lists.
unfoldable pub longest : List ℕ → List ℕ → ℕ
unfolding most
longest early late = most (λ e. get_or late e 0 - get_or early e 0) (length early)

-- The window is the largest of 1, the caller's floor, and the longest kept edge.
unfoldable pub window_of : ℕ → List ℕ → List ℕ → ℕ
unfolding longest
window_of floor early late = max 1 (max floor (longest early late))

-- A back edge of a vertex: how far back it goes, and its factor.
pub record Back (K : Type 0) : Type 0 where
  pub distance : ℕ
  pub factor : K

-- The factor of the kept edge from vertex t - d to vertex t, if there is one.
unfoldable pub back_edge : {K : Type 0} → List (Edge K) → ℕ → ℕ → Option K
back_edge [] t d = none
back_edge (e ∷ es) t d = cond (eqb e.late t && eqb (e.early + d) t) (some e.factor) (back_edge es t d)

-- One back edge at distance d in front of the others, if it is there.
unfoldable pub prepend : {K : Type 0} → ℕ → Option K → List (Back K) → List (Back K)
prepend d none bs = bs
prepend d (some x) bs = record { distance = d; factor = x } ∷ bs

-- The back edges of vertex t at the n distances from d on, shortest first.
unfoldable pub back_edges : {K : Type 0} → List (Edge K) → ℕ → ℕ → ℕ → List (Back K)
unfolding back_edge prepend
back_edges es t d zero = []
back_edges es t d (suc n) = prepend d (back_edge es t d) (back_edges es t (suc d) n)

-- Check 7: some vertex has over four back edges shorter than the window.
unfoldable pub too_many_near : {K : Type 0} → ℕ → ℕ → List (Edge K) → Bool
unfolding Search.some back_edges
too_many_near n w es = Search.some (λ t. ltb 4 (length (back_edges es t 1 (w - 1)))) n

-- What the step at a vertex reads: the left edge, at distance equal to the window, and the others, shorter than the window, shortest first.
pub record Step (K : Type 0) : Type 0 where
  pub left : Option K
  pub others : List (Back K)

-- Window 1 has only left edges.
abbrev pub step_of : {K : Type 0} → Job K → ℕ → Step K
step_of J t = record { left = back_edge J.edges t J.window; others = back_edges J.edges t 1 (J.window - 1) }
