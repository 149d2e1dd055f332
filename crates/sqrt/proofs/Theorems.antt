-- `sqrt` of a number above zero is the value nearest to its root, and the only one that is.
use Rattle.std.specs.Prelude.{◌≡◌, ℕ, ◌*◌, ◌^◌, ◌<◌, T, Float}
use Rattle.std.proofs.Common.{sym, subst, mul-pos, arith, pow_pos}
use Rattle.std.specs.Float.{Format}
use Rattle.std.specs.Float.Ieee.{low, fits}
use Rattle.std.specs.Float.Ieee.Positive.{num, den, positive, den_pos, own_value, value_pos, first_pos}
use Rattle.nearest.proofs.Laws.Smallest.{in_smallest}
use Rattle.nearest.proofs.Laws.Values.{nonnegative-of, same-value}
use Rattle.sqrt.specs.Nearest.{NearestRoot}
use Rattle.sqrt.specs.Sqrt.{sqrt}
use Rattle.sqrt.proofs.Laws.Root.{sqrt-is, root-nearest, clash}

-- ---- it is the nearest
pub sqrt-nearest : (f : Format) (x : Float) → T (fits f x) → T (positive x) → NearestRoot f x (sqrt f x)
sqrt-nearest f x h p =
    let (m, i, u) = in_smallest f x h (nonnegative-of x p) in
    let n = m * 2 ^ i in
    let num_pos = value_pos x (num x) (den x) p (den_pos x) (own_value x p) in
    let M : 0 < m = first_pos m (2 ^ i) (first_pos n (den x) (subst (λ (z : ℕ). 0 < z) u.same (mul-pos num_pos (pow_pos (low f))))) in
    subst (λ (v : Float). NearestRoot f x v) (sym (sqrt-is f x n p u.same)) (root-nearest f x m i M u)

-- ---- it is the only one
pub nearest-only : (f : Format) (x r s : Float) → NearestRoot f x r → NearestRoot f x s → r ≡ s
nearest-only f x r s R S =
    same-value f r s R.held S.held R.above S.above
    (level (num r * den s) (num s * den r) (clash f x r s R S) (clash f x s r S R))
  where
    level : (a b : ℕ) → (a < b → ⊥) → (b < a → ⊥) → a ≡ b
    level a b p q = omega (arith, p, q)

pub sqrt-only : (f : Format) (x r : Float) → T (fits f x) → T (positive x) → NearestRoot f x r → r ≡ sqrt f x
sqrt-only f x r h p R = nearest-only f x r (sqrt f x) R (sqrt-nearest f x h p)
