-- N and Z of a pair as rounded sums: N is under Z, whatever overflows, and a finite Z has finite vectors.
use Rattle.std.specs.Prelude.{◌≡◌, refl, Bool, cond, List, T, ltb}
use Rattle.std.proofs.Common.{ap}
use Prim.Native.Nat.{ℕ, zero, suc, ◌+◌, ◌-◌, ◌^◌, ◌≤◌}
use native.Mathlib.Omega.{arith}
use Rattle.std.specs.Float.Ieee.{Float, binary64, add, sub, mul}
use Rattle.std.specs.Float.Ieee.Scale.{finite}
use Rattle.rounding.proofs.Laws.Sign.{mul_finite}
use Rattle.rounding.proofs.Laws.Under.{either_under, mul_under}
use Rattle.rounding.specs.Laws.Under.{Under}
use Rattle.rounding.proofs.Laws.Sums.{Each, total, signed, total-finite, signed-under}
use Rattle.transfer_matrix.specs.Job.{Job}
use Rattle.transfer_matrix.specs.Arithmetic.{sum, signed_sum}
use Rattle.transfer_matrix.specs.Rounded.{ieee}
use Rattle.transfer_matrix.specs.Sweep.{at}
use Rattle.exactness.proofs.AnyScales.{NOf, ZOf, direct_nof, propagated_nof}
use Rattle.bounds.proofs.Laws.Sweeps.{Fair, propagated_beneath}

-- The sums of the definition are those that the laws of rounding speak of.
pub sum_is : (n : ℕ) (f : ℕ → Float) → sum ieee n f ≡ total binary64 f n
unfolding sum total
sum_is zero f = refl
sum_is (suc n) f = ap (λ x. add binary64 x (f n)) (sum_is n f)

signed_sum-is : (n : ℕ) (minus : ℕ → Bool) (f : ℕ → Float) → signed_sum ieee n minus f ≡ signed binary64 minus f n
unfolding signed_sum signed
signed_sum-is zero minus f = refl
signed_sum-is (suc n) minus f = ap (λ x. cond (minus n) (sub binary64 x (f n)) (add binary64 x (f n))) (signed_sum-is n minus f)

-- Whichever terms are subtracted.
signed_sum-under : (n : ℕ) (minus : ℕ → Bool) (f g : ℕ → Float) → Each n (λ j. Under (f j) (g j))
    → Under (signed_sum ieee n minus f) (sum ieee n g)
signed_sum-under n minus f g h = rw (signed_sum-is n minus f, sum_is n g) (signed-under binary64 minus f g n h)

module _ {J : Job Float} {F : ℕ → List Float} {f : ℕ → Float} {B : ℕ → List Float} (fair : Fair J F f B) where
  -- With no condition on overflow: `Under` says nothing of a Z that is not finite.
  pub N-under-Z : (u v : ℕ) → u ≤ v → Under (NOf ieee J F f B u v) (ZOf ieee J F f B v)
  unfolding NOf ZOf direct_nof propagated_nof
  N-under-Z u v l =
      let e : u + (v - u) ≡ v = omega arith in
      let near = fair.forwards v in
      let far = rw e at (propagated_beneath fair u (v - u)) in
      let b = fair.backwards v in
      either_under (ltb (v - u) J.window)
      (signed_sum-under (2 ^ J.window) _ _ _ (λ j _. mul_under binary64 (near j) (b j)))
      (signed_sum-under (2 ^ J.window) _ _ _ (λ j _. mul_under binary64 (far j) (b j)))

  -- A finite Z has a finite forward and a finite backward vector at its vertex.
  pub Z-finite : (v : ℕ) → T (finite (ZOf ieee J F f B v))
      → Each (2 ^ J.window) (λ j. T (finite (at ieee (F v) j)) × T (finite (at ieee (B v) j)))
  unfolding ZOf
  Z-finite v h j l =
      let t : ℕ → Float = λ i. mul binary64 (at ieee (F v) i) (at ieee (B v) i) in
      mul_finite binary64 (at ieee (F v) j) (at ieee (B v) j) (total-finite binary64 t (2 ^ J.window) (rw (sum_is (2 ^ J.window) t) at h) j l)
