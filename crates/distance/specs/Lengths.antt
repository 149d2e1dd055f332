-- Lengths of walks from one vertex, a list with an entry for each vertex: 1024 where no walk is known.
-- Relaxed edges lower the entries, until no edge lowers one.
use Rattle.std.specs.Prelude.{◌≡◌, Bool, true, false, cond, List, [], ◌∷◌, ℕ, ◌+◌, ◌≤◌, ◌<◌, eqb, length, get_or, set}
use Rattle.distance.specs.Walks.{Inside, Walk}

abbrev pub far : ℕ
far = 1024

-- the sum of a weight over the entries
unfoldable pub weigh : (ℕ → ℕ) → List ℕ → ℕ
weigh f [] = 0
weigh f (x ∷ d) = f x + weigh f d

abbrev pub total : List ℕ → ℕ
total d = weigh (λ x. x) d

abbrev pub is_far : ℕ → ℕ
is_far x = cond (eqb x far) 1 0

-- how many vertices have no known walk
abbrev pub unknown : List ℕ → ℕ
unknown d = weigh is_far d

-- The entry x of v is far, or the length of a walk from u. Such a length is below far by more than `room`, the number of
-- unknown vertices, so a step on to one of these gives a length below far.
pub data Entry (early late : List ℕ) (u room v x : ℕ) : Type 0 where
  away : x ≡ far → Entry early late u room v x
  seen : x + room < far → Walk early late x u v → Entry early late u room v x

-- right lengths of walks from u, not yet the least
pub record Sound (early late : List ℕ) (u : ℕ) (d : List ℕ) : Type 0 where
  pub start : get_or d u 0 ≡ 0
  pub each : (v : ℕ) → v < length d → Entry early late u (unknown d) v (get_or d v 0)

-- what a sweep asks for
pub record Ready (early late d : List ℕ) : Type 0 where
  pub same : length late ≡ length early
  pub inside : Inside early late (length d)
  pub top : (v : ℕ) → v < length d → get_or d v 0 ≤ far

-- what relaxed edges do to the lengths
pub record Lowered (early late d e : List ℕ) : Type 0 where
  pub len : length e ≡ length d
  pub low : (v : ℕ) → get_or e v 0 ≤ get_or d v 0
  pub sound : (u : ℕ) → Sound early late u d → Sound early late u e

-- one step from a to b: whether it lowered b's entry, and the entries after it
pub data Relaxed (d : List ℕ) (a b : ℕ) : Bool → List ℕ → Type 0 where
  nearer : get_or d a 0 + 1 < get_or d b 0 → Relaxed d a b true (set d b (get_or d a 0 + 1))
  kept : get_or d b 0 ≤ get_or d a 0 + 1 → Relaxed d a b false d

-- some steps: either the entries' sum fell, or nothing changed and P holds of the entries
pub data Steps (early late : List ℕ) (P : List ℕ → Type 0) (d : List ℕ) : Bool → List ℕ → Type 0 where
  lowered : {e : List ℕ} → Lowered early late d e → total e < total d → Steps early late P d true e
  calm : P d → Steps early late P d false d

-- no edge at an index from m up to n would lower an entry
pub record Settled (early late : List ℕ) (m n : ℕ) (d : List ℕ) : Type 0 where
  pub edge : (j : ℕ) → m ≤ j → j < n
      → (get_or d (get_or late j 0) 0 ≤ get_or d (get_or early j 0) 0 + 1) × (get_or d (get_or early j 0) 0 ≤ get_or d (get_or late j 0) 0 + 1)

-- the steps of these edges
abbrev pub EdgesRelaxed : List ℕ → List ℕ → ℕ → ℕ → List ℕ → Bool → List ℕ → Type 0
EdgesRelaxed early late m n d r e = Steps early late (Settled early late m n) d r e
