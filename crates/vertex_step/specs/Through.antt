-- The steps of a sweep at t and then at `last`, in one pass; or the one at t alone, where `last` is t.
use Rattle.std.specs.Prelude.{◌≡◌, Bool, cond, List, ◌⊎◌, ℕ, ◌≤◌, eqb, Float}
use Rattle.plan_steps.specs.Layout.{step_in}
use Rattle.half_vectors.specs.Half.{forward_half, negated_if}
use Rattle.step_backward.specs.Fold.{backward_fold}
use Rattle.vertex_step.specs.Ready.{Readable}

-- What a second step asks.
pub record Second (plan : List ℕ) (len w factors last : ℕ) : Type 0 where
  pub wide : 4 ≤ w
  pub reads : Readable plan len w factors last

abbrev pub Through : (plan : List ℕ) (len w factors t last : ℕ) → Type 0
Through plan len w factors t last = (last ≡ t) ⊎ Second plan len w factors last

-- the steps that the plan says, with the factors x, from a symmetric half or from an antisymmetric one
abbrev pub forward_by : (plan : List ℕ) (x : List Float) (w : ℕ) (antisymmetric : Bool) → ℕ → Float → (ℕ → Float) → ℕ → Float
forward_by plan x w antisymmetric u scale h = forward_half w (step_in plan x u) scale (negated_if antisymmetric) h

abbrev pub backward_by : (plan : List ℕ) (x : List Float) (w : ℕ) → ℕ → Float → (ℕ → Float) → ℕ → Float
backward_by plan x w u scale h = backward_fold w (step_in plan x u) scale h

-- The step at t with the scale; and then, where `last` is not t, the one at `last` with the other scale.
unfoldable pub through : (ℕ → Float → (ℕ → Float) → ℕ → Float) → (t last : ℕ) (scale then : Float) → (ℕ → Float) → ℕ → Float
through step t last scale then h = cond (eqb last t) (step t scale h) (step last then (step t scale h))
