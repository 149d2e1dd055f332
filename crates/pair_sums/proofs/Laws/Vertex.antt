-- The sums by halves are the definition's Z and N once the halves are those of the job's vectors.
use Rattle.std.specs.Prelude.{◌≡◌, refl, Bool, true, false, not, ℕ, ◌-◌, ◌/◌, ◌^◌, ◌≤◌, ◌<◌, min, Float}
use Rattle.std.proofs.Math.Path.{sym}
use Rattle.std.proofs.Common.{◌∙◌, arith}
use Rattle.std.specs.Bool.{beq}
use Rattle.std.proofs.Math.Nat.{min-le_left, div-eq_of_lt}
use Rattle.std.specs.Float.{binary64}
use Rattle.std.specs.Float.Ieee.Fits.{mul-fits}
use Rattle.list_laws.specs.Bits.{bit}
use Rattle.transfer_matrix.specs.Arithmetic.{sum, signed_sum}
use Rattle.transfer_matrix.specs.Job.{Job}
use Rattle.transfer_matrix.specs.Rounded.{ieee}
use Rattle.transfer_matrix.specs.Sweep as S
use Rattle.rounding.specs.Alike.{same}
use Rattle.half_vectors.proofs.Laws.Terms.{like, signed_same}
use Rattle.half_vectors.specs.Half.{there_and_back}
use Rattle.half_vectors.specs.Symmetric.{SymmetricHalf}
use Rattle.half_vectors.specs.Antisymmetric.{AntisymmetricHalf}
use Rattle.half_vectors.specs.Sums.{differ}
use Rattle.half_vectors.proofs.Laws.Sums.{Z-halves, direct-halves, propagated-halves}
use Rattle.pair_sums.specs.Terms.{terms, signs}

-- an index of the vector is below 2 ^ w: its bit w is clear
high-clear : (w j : ℕ) → j < 2 ^ w → differ w j ≡ bit 0 j
high-clear w j h = let z : j / 2 ^ w ≡ 0 = div-eq_of_lt h in rw z (flip (bit 0 j))
  where
    flip : (b : Bool) → not (beq b false) ≡ b
    flip true = refl
    flip false = refl

-- so the terms are signed by bit 0
pub signs-window : (w : ℕ) (h k : ℕ → Float) → signed_sum ieee (2 ^ w) (signs w w) (terms w h k) ≡ signed_sum ieee (2 ^ w) (there_and_back w (bit 0)) (terms w h k)
signs-window w h k =
    signed_same (2 ^ w) (signs w w) (there_and_back w (bit 0)) (terms w h k) (terms w h k) (λ j _. mul-fits binary64 (h _) (k _))
    (λ j b. let i = min j (2 ^ w - 1 - j) in rw (high-clear w i (omega (arith, min-le_left j (2 ^ w - 1 - j)))) (like same))

module _ (J : Job Float) (h k : ℕ → Float) (u v : ℕ) (wide : 1 ≤ J.window) (backward-is : SymmetricHalf J.window k (S.backward ieee J v)) where
  pub Z-is : SymmetricHalf J.window h (S.forward ieee J v) → sum ieee (2 ^ J.window) (terms J.window h k) ≡ S.Z ieee J v
  unfolding S.Z
  Z-is e = sym (Z-halves J.window wide h k _ _ backward-is e)

  pub direct_is : v - u < J.window → SymmetricHalf J.window h (S.forward ieee J v)
      → signed_sum ieee (2 ^ J.window) (signs J.window (v - u)) (terms J.window h k) ≡ S.direct_n ieee J u v
  unfolding S.direct_n
  direct_is l e = sym (direct-halves J.window wide h k _ _ backward-is e (v - u) l)

  pub propagated-is : AntisymmetricHalf J.window h (S.propagated ieee J u (v - u))
      → signed_sum ieee (2 ^ J.window) (signs J.window J.window) (terms J.window h k) ≡ S.propagated_n ieee J u v
  unfolding S.propagated_n
  propagated-is o = signs-window J.window h k ∙ sym (propagated-halves J.window wide h k _ _ backward-is o)
