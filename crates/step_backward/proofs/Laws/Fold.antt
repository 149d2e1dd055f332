-- Laws of what specs/Fold defines.
use Rattle.std.specs.Prelude.{◌≡◌, List, Float}
use Rattle.std.proofs.Math.Logic.{dite}
use Prim.Native.Nat.{ℕ, ◌+◌, ◌*◌, ◌-◌, ◌^◌, ◌≤◌, ◌<◌, min}
use Rattle.std.proofs.Math.Decide.{dec_lt}
use native.Mathlib.Omega.{arith}
use Rattle.list_laws.proofs.Laws.Power.{pow_double}
use Rattle.transfer_matrix.specs.Job.{Step}
use Rattle.transfer_matrix.specs.Rounded.{ieee}
use Rattle.transfer_matrix.specs.Sweep as S
use Rattle.half_vectors.proofs.Laws.Flip.{Below}
use Rattle.half_vectors.proofs.Laws.Entries.{lower}
use Rattle.half_vectors.specs.Half.{backward_half}
use Rattle.half_vectors.proofs.Laws.Half.{there}
use Rattle.half_vectors.specs.Symmetric.{SymmetricHalf}
use Rattle.half_vectors.proofs.Laws.Symmetric.{symmetric_ext, backward-half, backward-half-one}
use Rattle.step_backward.specs.Fold.{backward_fold}

module _ (w : ℕ) (s : Step Float) (sc : Float) (h : ℕ → Float) (j : ℕ) (b : j < 2 ^ (w - 1)) where
  -- in a window of 1
  pub fold_one : w ≡ 1 → backward_fold w s sc h j ≡ lower w s sc (λ i. h 0) 0
  unfolding backward_half
  fold_one e =
      let z : 2 ^ (w - 1) ≡ 1 = rw e in
      let i : j ≡ 0 = omega arith in
      rw (e, i)

  -- in a wider one the pair stands in the half
  pub fold_wide : 2 ≤ w → backward_fold w s sc h j ≡ backward_half w s sc h j
  unfolding backward_half
  fold_wide wide =
      let k = min j (2 ^ (w - 1) - 1 - j) in
      let z = pow_double (w - 1) (omega arith) in
      rw (there w (omega arith) h (2 * k) (omega arith), there w (omega arith) h (2 * k + 1) (omega arith))

-- it is the symmetric half of the backward step's vector
pub fold_symmetric : (w : ℕ) (s : Step Float) (sc : Float) (h : ℕ → Float) (v : List Float) → 1 ≤ w → Below (w - 1) s.others → SymmetricHalf w h v
    → SymmetricHalf w (backward_fold w s sc h) (S.backward_step ieee w s sc v)
fold_symmetric w s sc h v wide low symmetric =
    dite (dec_lt w 2)
    (λ l.
    let e : w ≡ 1 = omega arith in
    symmetric_ext (backward-half-one w s sc h v wide low symmetric e) (λ j b. fold_one w s sc h j b e))
    (λ l. symmetric_ext (backward-half w s sc h v wide low symmetric (omega arith)) (λ j b. fold_wide w s sc h j b (omega arith)))
