-- The steps of one iteration of a sweep: one, or two in one pass.
use Rattle.std.specs.Prelude.{◌≡◌, Bool, false, List, ◌⊎◌, ℕ, ◌+◌, ◌%◌, ◌≤◌, ◌<◌}
use Rattle.plan_steps.specs.Layout.{forward_place, backward_place}

-- The steps at t and `last`, in the block manner: after the step at t no largest entry is due, and its vector has no place.
pub record ForwardTwo (plan : List ℕ) (n w : ℕ) (elementwise : Bool) (t last : ℕ) : Type 0 where
  pub next : last ≡ t + 1
  pub inside : last < n
  pub wide : 4 ≤ w
  pub blocks : elementwise ≡ false
  pub due : t % 4 ≡ 3 → ⊥
  pub passing : forward_place plan t ≡ 0

abbrev pub ForwardSteps : (plan : List ℕ) (n w : ℕ) (elementwise : Bool) (t last : ℕ) → Type 0
ForwardSteps plan n w elementwise t last = (last ≡ t) ⊎ ForwardTwo plan n w elementwise t last

-- The steps at t and `last`, which is the vertex before, in the block manner: after the step at t no largest entry is due, and its vector,
-- which is that of `last`, has no place. The sweep goes down to vertex `stop`, and does not step over it.
pub record BackwardTwo (plan : List ℕ) (w : ℕ) (elementwise : Bool) (stop t last : ℕ) : Type 0 where
  pub next : t ≡ last + 1
  pub inside : stop < last
  pub wide : 4 ≤ w
  pub blocks : elementwise ≡ false
  pub due : t % 4 ≡ 0 → ⊥
  pub passing : backward_place plan last ≡ 0

abbrev pub BackwardSteps : (plan : List ℕ) (w : ℕ) (elementwise : Bool) (stop t last : ℕ) → Type 0
BackwardSteps plan w elementwise stop t last = (last ≡ t) ⊎ BackwardTwo plan w elementwise stop t last
