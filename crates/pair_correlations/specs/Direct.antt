-- The direct pairs of one vertex, answered from its vectors.
use Rattle.std.specs.Prelude.{◌≡◌, Bool, true, false, List, ◌⊎◌, ℕ, ◌-◌, ◌≤◌, ◌<◌, length, get_or, Float}
use Rattle.transfer_matrix.specs.Job.{Job}
use Rattle.transfer_matrix.specs.Room.{earlier, later}
use Rattle.step_tables.specs.Place.{Place}
use Rattle.pair_order.specs.Order.{Ordered}
use Rattle.pair_correlations.specs.declared.direct.VertexPlaces.{VertexPlaces}
use Rattle.pair_correlations.specs.Sound.{unsound}
use Rattle.pair_correlations.specs.Aim.{VertexHalves}
use Rattle.pair_correlations.specs.Two.{Answered}

-- The pairs from..to of the order are direct, and `vertex` is their later vertex.
pub record DirectAt (us vs order : List ℕ) (w vertex from to : ℕ) : Type 0 where
  pub up : from ≤ to
  pub inside : to ≤ length order
  pub end : (k : ℕ) → from ≤ k → k < to → later us vs (get_or order k 0) ≡ vertex
  pub apart : (k : ℕ) → from ≤ k → k < to → earlier us vs (get_or order k 0) < vertex
  pub near : (k : ℕ) → from ≤ k → k < to → vertex - earlier us vs (get_or order k 0) < w

-- They can be answered from a room of len numbers.
pub record DirectAsked (us vs order : List ℕ) (len w : ℕ) (at : VertexPlaces) (from to results : ℕ) : Type 0 where
  pub matched : length us ≡ length vs
  pub ordered : Ordered order (length us)
  pub forward : Place len w at.forward
  pub backward : Place len w at.backward
  pub direct : DirectAt us vs order w at.vertex from to
  pub fitting : results ≡ length us

-- Pair i is one of the pairs from..to.
abbrev pub Between : (order : List ℕ) (from to i : ℕ) → Type 0
Between order from to i = (k : ℕ) × (from ≤ k) × (k < to) × (get_or order k 0 ≡ i)

-- Those from..k are answered, and those that were answered still are.
pub record DirectsAnswered (r : List Float) (us vs order : List ℕ) (w : ℕ) (at : VertexPlaces) (from k : ℕ) (results₀ results : List Float) : Type 0 where
  pub long : length results ≡ length results₀
  pub done : (J : Job Float) → VertexHalves J r w at.forward at.backward at.vertex → (i : ℕ)
      → (Answered J us vs results₀ i ⊎ Between order from k i) → Answered J us vs results i

-- All are, where every Z is sound; else the vertex's Z is not.
pub record AnsweredAt (r : List Float) (us vs order : List ℕ) (w : ℕ) (at : VertexPlaces) (from to : ℕ) (results₀ results : List Float) (sound : Bool) : Type 0 where
  pub long : length results ≡ length results₀
  pub answered : sound ≡ true → DirectsAnswered r us vs order w at from to results₀ results
  pub unanswered : sound ≡ false → (J : Job Float) → VertexHalves J r w at.forward at.backward at.vertex → unsound J us vs ≡ true
