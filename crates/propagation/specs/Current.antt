-- The current propagated vector, and what is known as it goes on from pair to pair. Only the moving places are written.
use Rattle.std.specs.Prelude.{◌≡◌, Bool, List, ◌⊎◌, ℕ, ◌+◌, ◌-◌, ◌≤◌, ◌<◌, drop, Float}
use Rattle.transfer_matrix.specs.Job.{Job}
use Rattle.transfer_matrix.specs.Rounded.{ieee}
use Rattle.transfer_matrix.specs.Sweep as S
use Rattle.half_vectors.specs.Antisymmetric.{AntisymmetricHalf}
use Rattle.pair_sums.specs.Terms.{half_at}
use Rattle.vertex_step.specs.Ready.{PlanOf, BothSwept, Still}
use Rattle.propagation.specs.declared.current.CurrentVector.{CurrentVector}

-- The plan is of job J, and both its sweeps have passed the room.
pub record PlanSwept (J : Job Float) (plan : List ℕ) (r : List Float) (n w scales : ℕ) (elementwise : Bool) : Type 0 where
  pub of : PlanOf J plan (drop (scales + n) r) n w elementwise
  pub swept : BothSwept J plan r n w scales

-- The propagated vector of u has reached vertex t, and its lower half lies at place `at`.
pub record Reached (J : Job Float) (r : List Float) (w u t at : ℕ) : Type 0 where
  pub order : u ≤ t
  pub vector : AntisymmetricHalf w (half_at r w at) (S.propagated ieee J u (t - u))

-- The steps of an iteration from t on: to `last`, which is t, or the next if that is not past `to`.
pub record AdvanceTwo (w t to last : ℕ) : Type 0 where
  pub next : last ≡ t + 1
  pub inside : last ≤ to
  pub wide : 4 ≤ w

abbrev pub AdvanceSteps : (w t to last : ℕ) → Type 0
AdvanceSteps w t to last = (last ≡ t) ⊎ AdvanceTwo w t to last

-- A propagated vector that had reached `from` at place `at`, whichever it was, has reached `to` at place `on`.
pub record Advanced (plan : List ℕ) (r₀ r : List Float) (n w scales from at to on : ℕ) : Type 0 where
  pub moving : on < 2
  pub still : Still r₀ r w scales
  pub reached : (J : Job Float) (elementwise : Bool) (u : ℕ) → PlanSwept J plan r₀ n w scales elementwise → Reached J r₀ w u from at → Reached J r w u to on

-- The current vector is what it is said to be, if there is one.
pub record CurrentKnown (J : Job Float) (r : List Float) (n w : ℕ) (current : CurrentVector) : Type 0 where
  pub reached : current.vertex < n → Reached J r w current.vertex current.reached current.place

-- The propagated vector of u has reached v at place `on`.
pub record Propagated (plan : List ℕ) (r₀ r : List Float) (n w scales u v : ℕ) (current : CurrentVector) (on : ℕ) : Type 0 where
  pub moving : on < 2
  pub still : Still r₀ r w scales
  pub reached : (J : Job Float) (elementwise : Bool) → PlanSwept J plan r₀ n w scales elementwise → CurrentKnown J r₀ n w current → Reached J r w u v on
