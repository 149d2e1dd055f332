-- Laws of what specs/Stored defines.
use Rattle.std.specs.Prelude.{◌≡◌, refl, Bool, true, false, cond, List, ℕ, Float}
use Rattle.std.proofs.Common.{ap, ◌∙◌}
use Rattle.transfer_matrix.specs.Job.{block, per_element}
use Rattle.transfer_matrix.specs.Rounded.{ieee}
use Rattle.transfer_matrix.specs.Sweep as S
use Rattle.pair_sums.specs.Stored.{due, most_if}

-- that is what a step stores
stored_is : (elementwise : Bool) (r t : ℕ) (v : List Float) → most_if (due elementwise r t) v ≡ S.stored ieee (cond elementwise per_element block) r t v
unfolding due most_if S.stored
stored_is true r t v = refl
stored_is false r t v = refl

pub stored_if : (elementwise : Bool) (r t : ℕ) (v : List Float) {b : Bool} {m : Float} → b ≡ due elementwise r t → m ≡ most_if b v
    → m ≡ S.stored ieee (cond elementwise per_element block) r t v
stored_if elementwise r t v e p = p ∙ ap (λ (x : Bool). most_if x v) e ∙ stored_is elementwise r t v
