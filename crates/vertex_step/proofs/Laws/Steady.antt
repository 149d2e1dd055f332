-- The edges that the plan says join the spins of the window: their bits are below its last.
use Rattle.std.specs.Prelude.{List, ℕ, zero, suc, ◌+◌, ◌-◌, ◌≤◌, ◌<◌, get_or, Float}
use Rattle.std.proofs.Common.{arith}
use Rattle.std.specs.Float.{nan}
use Rattle.plan_steps.specs.Layout.{Vertex, near_bit, near_from, step_in}
use Rattle.half_vectors.proofs.Laws.Flip.{Below}

near-below : (factor : ℕ → Float) (plan : List ℕ) (h t i k : ℕ) → ((j : ℕ) → i ≤ j → j < i + k → near_bit plan t j < h)
    → Below h (near_from factor plan t i k)
unfolding near_from
near-below factor plan h t i zero low = tt
near-below factor plan h t i (suc k) low =
    let b = low i (omega arith) (omega arith) in
    (omega arith, near-below factor plan h t (suc i) k (λ j a c. low j (omega arith) (omega arith)))

-- the bits of the near edges lie in the lower half of the window
pub step-below : {plan : List ℕ} {w m t : ℕ} (x : List Float) → Vertex plan w m t → Below (w - 1) (step_in plan x t).others
step-below {plan} {w} {m} {t} x v = near-below (λ e. get_or x e nan) plan (w - 1) t 0 _ (λ j a b. v.low j (omega arith))
