-- Where the backward sweep begins.
use Rattle.std.specs.Prelude.{◌≡◌, Bool, cond, List, ◌⊎◌, ℕ, ◌+◌, ◌-◌, ◌^◌, ◌≤◌, ◌<◌, Float}
use Rattle.list_laws.specs.Tabulate.{tabulate}
use Rattle.transfer_matrix.specs.Job.{Job, block, per_element}
use Rattle.transfer_matrix.specs.Rounded.{ieee}
use Rattle.transfer_matrix.specs.Sweep as S
use Rattle.plan_steps.specs.Layout.{backward_place}
use Rattle.step_tables.specs.Place.{hold}
use Rattle.pair_sums.specs.Terms.{half_at}
use Rattle.vertex_step.specs.Ready.{Backward}

-- The backward vectors that are kept from vertex c on stand in the room; where c is the last vertex or more, none does.
abbrev pub Stands : Job Float → List ℕ → List Float → (n w c : ℕ) → Type 0
Stands J plan r n w c = c + 1 < n → Backward J plan r n w c

-- t is the last of n vertices, or the first from c on whose backward vector has a place.
pub record KeptFrom (plan : List ℕ) (n c t : ℕ) : Type 0 where
  pub below : t < n
  pub from : t + 1 < n → c ≤ t
  pub placed : t + 1 < n → 0 < backward_place plan t
  pub first : (u : ℕ) → c ≤ u → u < t → backward_place plan u ≡ 0

-- At the last vertex the start is written to place src.
pub record Started (r₀ r : List Float) (n w t src : ℕ) (most : Float) : Type 0 where
  pub last : t + 1 ≡ n
  pub made : r ≡ hold r₀ w src (tabulate (λ _. ieee.𝟙) (2 ^ (w - 1)))
  pub one : most ≡ ieee.𝟙

-- Elsewhere the vector at src stays, and `most` is what the step that gave it stored.
pub record Resumed (r₀ r : List Float) (n w : ℕ) (elementwise : Bool) (t src : ℕ) (most : Float) : Type 0 where
  pub early : t + 1 < n
  pub same : r ≡ r₀
  pub taken : most ≡ S.stored ieee (cond elementwise per_element block) 0 (t + 1) (tabulate (half_at r₀ w src) (2 ^ (w - 1)))

abbrev pub Begun : (r₀ r : List Float) (n w : ℕ) → Bool → (t src : ℕ) → Float → Type 0
Begun r₀ r n w elementwise t src most = Started r₀ r n w t src most ⊎ Resumed r₀ r n w elementwise t src most

-- The sweep stays at vertex t, whose vector is at src.
pub record Stayed (t src : ℕ) (most : Float) (k dst : ℕ) (most' : Float) : Type 0 where
  pub vertex : k ≡ t
  pub place : dst ≡ src
  pub entry : most' ≡ most

-- Below t, from vertex c on, it goes on at k, whose kept vector is at dst; most' is what the step that gave it stored.
pub record Nearer (plan : List ℕ) (r : List Float) (w : ℕ) (elementwise : Bool) (c t k dst : ℕ) (most' : Float) : Type 0 where
  pub from : c ≤ k
  pub below : k < t
  pub placed : 0 < backward_place plan k
  pub place : dst ≡ backward_place plan k
  pub taken : most' ≡ S.stored ieee (cond elementwise per_element block) 0 (k + 1) (tabulate (half_at r w dst) (2 ^ (w - 1)))

abbrev pub GoneOn : List ℕ → List Float → (w : ℕ) → Bool → (c t src : ℕ) → Float → (k dst : ℕ) → Float → Type 0
GoneOn plan r w elementwise c t src most k dst most' = Stayed t src most k dst most' ⊎ Nearer plan r w elementwise c t k dst most'
