-- The lower halves that stand in the room for a propagated and a forward vector: no entry of the one exceeds the other's in size.
use Rattle.std.proofs.Common.{subst, arith}
use Rattle.std.specs.Prelude.{ℕ, ◌+◌, ◌-◌, ◌^◌, ◌≤◌, ◌<◌, T, Float}
use Rattle.std.specs.Float.Ieee.{le}
use Rattle.std.specs.Float.Ieee.Scale.{finite}
use Rattle.std.specs.Float.Ieee.Positive.{positive, positive-finite}
use Rattle.list_laws.proofs.Laws.Power.{pow_double}
use Rattle.rounding.specs.Sign.{abs}
use Rattle.rounding.proofs.Laws.Under.{under_le, abs-under}
use Rattle.rounding.specs.Laws.Under.{Under}
use Rattle.transfer_matrix.specs.Job.{Job}
use Rattle.transfer_matrix.specs.Rounded.{ieee}
use Rattle.transfer_matrix.specs.Sweep as S
use Rattle.transfer_matrix.specs.Checked.{Checked}
use Rattle.bounds.proofs.Bounds.{forward-finite, propagated-under}
use Rattle.rounding.specs.Alike.{Alike, same, zeros}
use Rattle.half_vectors.specs.Symmetric.{SymmetricHalf}
use Rattle.half_vectors.specs.Antisymmetric.{AntisymmetricHalf}

-- the sign of a zero does not change its size
alike_under : {x z y : Float} → Alike x z → Under x y → Under z y
alike_under same u = u
alike_under zeros u = record { sign = u.sign; size = λ h. record { is_finite = tt; at_most = omega arith } }

module _ (J : Job Float) (checked : Checked (λ x. T (positive x)) J) (u v t j : ℕ) (passed : T (positive (S.Z ieee J v))) (inside : u + t ≤ v)
    (low : j < 2 ^ (J.window - 1)) (g f : ℕ → Float) where
  entry-finite : T (finite (S.at ieee (S.forward ieee J (u + t)) j))
  entry-finite =
      forward-finite J checked v (u + t) inside (positive-finite (S.Z ieee J v) passed) j (omega (arith, pow_double J.window checked.window))

  pub half-bounded : AntisymmetricHalf J.window g (S.propagated ieee J u t) → SymmetricHalf J.window f (S.forward ieee J (u + t)) → T (le (abs (g j)) (f j))
  half-bounded odd even =
      subst (λ (y : Float). T (le (abs (g j)) y)) (even.low j low)
      (under_le (abs-under (alike_under (odd.low j low) (propagated-under J checked u t j))) entry-finite)
