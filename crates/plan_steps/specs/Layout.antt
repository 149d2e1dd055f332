-- The plan's layout: one list, with twelve numbers for each vertex. Here each number has its name.
use Rattle.std.specs.Prelude.{◌≡◌, cond, List, [], ◌∷◌, ℕ, zero, suc, ◌+◌, ◌*◌, ◌-◌, ◌≤◌, ◌<◌, eqb, Float, length, get_or}
use Rattle.std.proofs.Math.Option.{Option, none, some}
use Rattle.std.specs.Float.{nan}
use Rattle.transfer_matrix.specs.Job.{Back, Step}

-- how many numbers a vertex has, and where each stands among them
abbrev pub numbers : ℕ
numbers = 12

abbrev pub left_edge_at : ℕ
left_edge_at = 0

abbrev pub near_count_at : ℕ
near_count_at = 1

abbrev pub near_edges_at : ℕ
near_edges_at = 2

abbrev pub near_bits_at : ℕ
near_bits_at = 6

abbrev pub forward_place_at : ℕ
forward_place_at = 10

abbrev pub backward_place_at : ℕ
backward_place_at = 11

-- number k of vertex t, and its index in the plan
abbrev pub index_of : ℕ → ℕ → ℕ
index_of t k = numbers * t + k

abbrev pub number : List ℕ → ℕ → ℕ → ℕ
number plan t k = get_or plan (index_of t k) 0

-- the left edge and one; 0 where there is none
abbrev pub left_edge : List ℕ → ℕ → ℕ
left_edge plan t = number plan t left_edge_at

-- how many near edges t has: those shorter than the window
abbrev pub near_count : List ℕ → ℕ → ℕ
near_count plan t = number plan t near_count_at

-- the near edges, shortest first, and the bits that they read: distance less one
abbrev pub near_edge : List ℕ → ℕ → ℕ → ℕ
near_edge plan t i = number plan t (near_edges_at + i)

abbrev pub near_bit : List ℕ → ℕ → ℕ → ℕ
near_bit plan t i = number plan t (near_bits_at + i)

-- the places that keep the forward and the backward vector; 0 where it is not kept
abbrev pub forward_place : List ℕ → ℕ → ℕ
forward_place plan t = number plan t forward_place_at

abbrev pub backward_place : List ℕ → ℕ → ℕ
backward_place plan t = number plan t backward_place_at

-- the plan has room for n vertices
abbrev pub Holds : List ℕ → ℕ → Type 0
Holds plan n = numbers * n ≤ length plan

-- ---- what a step reads

module _ {K : Type 0} (factor : ℕ → K) where
  -- the factor of the edge that k names, k being an edge and one, or 0
  unfoldable pub named : ℕ → Option K
  named k = cond (eqb k 0) none (some (factor (k - 1)))

  -- near edge i of t, with its distance and factor
  abbrev pub near_at : List ℕ → ℕ → ℕ → Back K
  near_at plan t i = record { distance = near_bit plan t i + 1; factor = factor (near_edge plan t i) }

  -- k near edges of t, from number i on
  unfoldable pub near_from : List ℕ → ℕ → ℕ → ℕ → List (Back K)
  near_from plan t i zero = []
  near_from plan t i (suc k) = near_at plan t i ∷ near_from plan t (suc i) k

  -- what the plan says of vertex t
  abbrev pub step_by : List ℕ → ℕ → Step K
  step_by plan t = record { left = named (left_edge plan t); others = near_from plan t 0 (near_count plan t) }

-- the same, the factors being a list
abbrev pub step_in : List ℕ → List Float → ℕ → Step Float
step_in plan x t = step_by (λ e. get_or x e nan) plan t

-- what is said of t can be read: m edges, window w
pub record Vertex (plan : List ℕ) (w m t : ℕ) : Type 0 where
  pub left : left_edge plan t ≤ m
  pub few : near_count plan t ≤ 4
  pub edge : (i : ℕ) → i < near_count plan t → near_edge plan t i < m
  pub low : (i : ℕ) → i < near_count plan t → near_bit plan t i < w - 1
  pub rising : (i j : ℕ) → i < j → j < near_count plan t → near_bit plan t i < near_bit plan t j

-- ---- plans that say the same of t's edges: the numbers before the places are equal

abbrev pub SameStep : List ℕ → List ℕ → ℕ → Type 0
SameStep p q t = (k : ℕ) → k < forward_place_at → number q t k ≡ number p t k
