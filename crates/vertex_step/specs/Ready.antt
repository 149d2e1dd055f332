-- What a sweep asks of a plan and a room, which job a plan is of, and what the sweeps leave in the room.
use Rattle.std.specs.Prelude.{◌≡◌, Bool, cond, List, ℕ, ◌+◌, ◌*◌, ◌-◌, ◌^◌, ◌≤◌, ◌<◌, length, get_or, drop, Float}
use Rattle.std.specs.Float.{nan}
use Rattle.transfer_matrix.specs.Job.{Job, block, per_element, step_of}
use Rattle.transfer_matrix.specs.Rounded.{ieee}
use Rattle.transfer_matrix.specs.Sweep as S
use Rattle.plan_steps.specs.Layout.{Holds, Vertex, step_in, forward_place, backward_place}
use Rattle.step_tables.specs.Place.{held, Places}
use Rattle.half_vectors.specs.Symmetric.{SymmetricHalf}
use Rattle.pair_sums.specs.Terms.{half_at}
use Rattle.vertex_step.specs.Frame.{Fits}

-- Places of n vertices below `end`: none (0), or one behind the moving ones that no other vertex has.
pub record Own (place : ℕ → ℕ) (n w end : ℕ) : Type 0 where
  pub high : (t : ℕ) → t < n → 0 < place t → 2 ≤ place t
  pub fits : (t : ℕ) → t < n → 0 < place t → Fits w end (place t)
  pub apart : (t u : ℕ) → t < n → u < n → 0 < place t → place t ≡ place u → t ≡ u

-- A plan of n vertices and window w that can be read, and a room of len numbers in which its places lie apart, before the scales.
pub record Ready (plan : List ℕ) (len n w scales : ℕ) : Type 0 where
  pub wide : 1 ≤ w
  pub narrow : w ≤ 24
  pub holds : Holds plan n
  pub moving : 2 * 2 ^ w ≤ scales
  pub ends : scales + n ≤ len
  pub vertex : (t : ℕ) → t < n → Vertex plan w (len - (scales + n)) t
  pub forward : Own (forward_place plan) n w scales
  pub backward : Own (backward_place plan) n w scales
  pub kinds : (t u : ℕ) → t < n → u < n → 0 < forward_place plan t → forward_place plan t ≡ backward_place plan u → ⊥

-- What is said of t can be read in a room of len numbers whose factors begin at `factors`.
pub record Readable (plan : List ℕ) (len w factors t : ℕ) : Type 0 where
  pub holds : Holds plan (t + 1)
  pub ends : factors ≤ len
  pub vertex : Vertex plan w (len - factors) t

-- What the step at t from place src to place dst asks.
pub record Stepping (plan : List ℕ) (len w factors t src dst : ℕ) : Type 0 where
  pub reads : Readable plan len w factors t
  pub places : Places len w src dst

-- The plan, with the factors x, is of job J. `elementwise` says whether its manner is per element.
pub record PlanOf (J : Job Float) (plan : List ℕ) (x : List Float) (n w : ℕ) (elementwise : Bool) : Type 0 where
  pub vertices : J.last + 1 ≡ n
  pub window : J.window ≡ w
  pub manner : J.manner ≡ cond elementwise per_element block
  pub step : (t : ℕ) → t < n → step_in plan x t ≡ step_of J t

-- ---- what is in the room

-- The lower halves of the first t vertices' forward vectors are kept where they have a place, and their scales are stored.
pub record Forward (J : Job Float) (plan : List ℕ) (r : List Float) (w scales t : ℕ) : Type 0 where
  pub vectors : (u : ℕ) → u < t → 0 < forward_place plan u → SymmetricHalf w (half_at r w (forward_place plan u)) (S.forward ieee J u)
  pub scaled : (u : ℕ) → u < t → get_or r (scales + u) nan ≡ S.scale ieee J u

-- The lower halves of the backward vectors from vertex t on are kept where they have a place.
pub record Backward (J : Job Float) (plan : List ℕ) (r : List Float) (n w t : ℕ) : Type 0 where
  pub vectors : (u : ℕ) → t ≤ u → u < n → 0 < backward_place plan u → SymmetricHalf w (half_at r w (backward_place plan u)) (S.backward ieee J u)

-- What both sweeps leave.
pub record BothSwept (J : Job Float) (plan : List ℕ) (r : List Float) (n w scales : ℕ) : Type 0 where
  pub forward : Forward J plan r w scales n
  pub backward : Backward J plan r n w 0

-- ---- what stays

-- Since r₀ the places behind the moving ones, and all from the scales on, are as they were.
pub record Still (r₀ r : List Float) (w scales : ℕ) : Type 0 where
  pub same : length r ≡ length r₀
  pub tail : drop scales r ≡ drop scales r₀
  pub places : (p : ℕ) → 2 ≤ p → Fits w scales p → held r w p ≡ held r₀ w p
