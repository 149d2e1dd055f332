-- In a wide window a backward step reads its half there, and not back.
use mathlib.Core.Path.{◌≡◌, ◌∙◌}
use mathlib.Core.List.{List}
use Prim.Native.Nat.{ℕ, ◌+◌, ◌*◌, ◌-◌, ◌^◌, ◌≤◌, ◌<◌, min}
use native.Mathlib.Omega.{arith}
use lib.Ieee.{Float}
use Rattle.list_laws.proofs.Laws.Power.{pow_double}
use Rattle.list_laws.specs.Tabulate.{tabulate}
use Rattle.list_laws.proofs.Laws.Tabulate.{tabulate_ext}
use Rattle.transfer_matrix.specs.Job.{Step}
use Rattle.step_tables.specs.Place.{hold}
use Rattle.half_vectors.specs.Half.{backward_half}
use Rattle.step_backward.specs.Fold.{backward_fold}
use Rattle.step_backward.proofs.Laws.Fold.{fold_wide}

-- the room r with the half h at place p
abbrev pub half-to : List Float → ℕ → ℕ → ℕ → (ℕ → Float) → List Float
half-to r w p n h = hold r w p (tabulate h n)

-- a step reads only the half's own numbers
step_same : (w : ℕ) (s : Step Float) (sc : Float) (f g : ℕ → Float) → 2 ≤ w → ((i : ℕ) → i < 2 ^ (w - 1) → f i ≡ g i)
    → (j : ℕ) → j < 2 ^ (w - 1) → backward_half w s sc f j ≡ backward_half w s sc g j
unfolding backward_half
step_same w s sc f g wide same j b =
    let k = min j (2 ^ (w - 1) - 1 - j) in
    let z = pow_double (w - 1) (omega arith) in
    rw (same (2 * k) (omega arith), same (2 * k + 1) (omega arith))

-- two steps, the one by s after the one by s'
pub fold_twice : (w : ℕ) (s : Step Float) (sc : Float) (s' : Step Float) (sc' : Float) (h : ℕ → Float) → 4 ≤ w
    → tabulate (backward_fold w s sc (backward_fold w s' sc' h)) (2 ^ (w - 1)) ≡ tabulate (backward_half w s sc (backward_half w s' sc' h)) (2 ^ (w - 1))
fold_twice w s sc s' sc' h wide =
    let wide' : 2 ≤ w = omega arith in
    tabulate_ext (backward_fold w s sc (backward_fold w s' sc' h)) (backward_half w s sc (backward_half w s' sc' h)) (2 ^ (w - 1))
    (λ j b.
    fold_wide w s sc (backward_fold w s' sc' h) j b wide'
    ∙ step_same w s sc (backward_fold w s' sc' h) (backward_half w s' sc' h) wide' (λ i c. fold_wide w s' sc' h i c wide') j b)
