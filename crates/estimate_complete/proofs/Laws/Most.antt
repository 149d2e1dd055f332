-- A difference of a number up to 1 and one that is not below zero is at most 1, where it is above zero; so is its root.
use Rattle.std.specs.Prelude.{◌≡◌, refl, Bool, true, false, cond, T, ltb, leb, Float}
use Rattle.std.proofs.Common.{sym, subst, arith, mul-pos, mul-le-mul, mul-le-mul_right, leb-true, leb-false}
use Prim.Native.Nat.{ℕ, zero, suc, ◌+◌, ◌-◌, ◌*◌, ◌/◌, ◌%◌, ◌^◌, ◌≤◌, ◌<◌, compare}
use Rattle.std.specs.Float.{nan, inf, fin, binary64}
use Rattle.std.specs.Float.Ieee.{prec, emax, low, up, down, size, nearest, odd, units, round, sum, add, sub, neg, lt, le, fits}
use Rattle.std.specs.Float.Ieee.Fits.{down_pos, round_is, sub-fits}
use Rattle.std.specs.Float.Ieee.Order.{round_mono}
use Rattle.std.specs.Float.Ieee.Positive.{num, den, positive, den_pos, cross→le, le→cross}
use Rattle.std.specs.Float.Ieee.Scale.{finite}
use Rattle.rounding.specs.Under.{nought, unit}
use Rattle.rounding.specs.Laws.Sign.{not_minus}
use Rattle.rounding.proofs.Laws.Under.{unit-is}
use Rattle.rounding.proofs.Laws.Tests.{positive_of_tests}
use Rattle.rounding.specs.Laws.Under.{Under}
use Rattle.nearest.proofs.Laws.Values.{cross→lt}
use Rattle.sqrt.specs.Nearest.{NearestRoot}
use Rattle.sqrt.specs.Sqrt.{sqrt}
use Rattle.sqrt.proofs.Theorems.{sqrt-nearest}
use Rattle.estimate.specs.Estimates.{+0·0, at_least_zero}
use Rattle.estimate_complete.proofs.Laws.Order.{zero_is}

-- ---- the difference
odd_not_above : (d q k l : ℕ) → T (lt nought (odd d true q k l)) → ⊥
unfolding odd lt
odd_not_above d zero k l h = h
odd_not_above d (suc q) k l h = h

cond_not_above : (b : Bool) (x y : Float) → (T (lt nought x) → ⊥) → (T (lt nought y) → ⊥) → T (lt nought (cond b x y)) → ⊥
cond_not_above true x y p q h = p h
cond_not_above false x y p q h = q h

units_not_above : (q k : ℕ) → T (lt nought (units binary64 true q k)) → ⊥
unfolding units lt
units_not_above q k h =
    cond_not_above (ltb (q * 2 ^ k) (2 ^ (low binary64 + suc (emax binary64)))) (odd (suc (prec binary64)) true q k (low binary64)) (inf true)
    (odd_not_above (suc (prec binary64)) q k (low binary64)) (λ (z : T (lt nought (inf true))). z) h

round_not_above : (a c : ℕ) → T (lt nought (round binary64 true a c)) → ⊥
round_not_above a c h =
    let n = a * 2 ^ low binary64 in
    let k = size (n / c) - prec binary64 in
    let u = c * 2 ^ k in
    units_not_above (nearest (n / u) (compare (n % u * 2) u)) k (rw (round_is binary64 true a c) at h)

pub difference_most : (x y : Float) → Under x unit → T (finite y) → T (not_minus y) → T (lt nought (sub binary64 x y)) → T (le (sub binary64 x y) unit)
unfolding sub neg add sum
difference_most x nan u k p h = absurd k
difference_most x (inf t) u k p h = absurd k
difference_most x (fin true n d) u k p h = absurd p
difference_most nan (fin false n d) u k p h = absurd (u.size tt).is_finite
difference_most (inf s) (fin false n d) u k p h = absurd (u.size tt).is_finite
difference_most (fin true m e) (fin false n d) u k p h = absurd (round_not_above (m * up e * down d + n * up d * down e) (down e * down d) h)
difference_most (fin false m e) (fin false n d) u k p h = go (ltb a b) h
  where
    a : ℕ
    a = m * up e * down d

    b : ℕ
    b = n * up d * down e

    go : (t : Bool) → T (lt nought (cond t (round binary64 true (b - a) (down e * down d)) (round binary64 false (a - b) (down e * down d))))
        → T (le (cond t (round binary64 true (b - a) (down e * down d)) (round binary64 false (a - b) (down e * down d))) unit)
    go true h = absurd (round_not_above (b - a) (down e * down d) h)
    go false h =
        let w = (u.size tt).at_most in
        let c : (a - b) * 1 ≤ 1 * (down e * down d) = omega (arith, mul-le-mul_right (down d) w) in
        subst (λ (z : Float). T (le (round binary64 false (a - b) (down e * down d)) z)) (sym (unit-is binary64))
        (round_mono binary64 (a - b) (down e * down d) 1 1 (mul-pos (down_pos e) (down_pos d)) (omega arith) c)

-- ---- the root
-- r is above 1 and the middle of 1 and r is below √x, for an x up to 1
past : (r dr x dx : ℕ) → dr < r → x ≤ dx → 0 < dx → (dr + r) * (dr + r) * dx < 4 * x * (dr * dr) → ⊥
past r dr x dx h l p m =
    let twice : dr + dr ≤ dr + r = omega arith in
    let squared = mul-le-mul_right dx (mul-le-mul twice twice) in
    omega (arith, squared, mul-le-mul_right (4 * (dr * dr)) l)

unit-fits : T (fits binary64 unit)
unfolding fits
unit-fits = tt

pub root-most : (x : Float) → T (fits binary64 x) → T (lt nought x) → T (le x unit) → T (le (sqrt binary64 x) unit)
root-most x f h l = go (leb (num r) (den r)) refl
  where
    r : Float
    r = sqrt binary64 x

    p : T (positive x)
    p = positive_of_tests x unit tt h l

    root : NearestRoot binary64 x r
    root = sqrt-nearest binary64 x f p

    few : num x ≤ den x
    few = let c = le→cross x unit p tt l in omega arith

    go : (b : Bool) → leb (num r) (den r) ≡ b → T (le r unit)
    go true e = let q = leb-true (num r) (den r) e in cross→le r unit root.above tt (omega arith)
    go false e =
        let q = leb-false (num r) (den r) e in
        let c : num unit * den r < num r * den unit = omega arith in
        let m = root.smaller unit unit-fits tt (cross→lt unit r tt root.above c) in
        absurd (past (num r) (den r) (num x) (den x) q few (den_pos x) (omega arith))

-- ---- the larger of +0.0 and a difference, and its root
zero_most : T (le (sqrt binary64 nought) unit)
unfolding sqrt le lt
zero_most = tt

pub spread_most : (x y : Float) → Under x unit → T (finite y) → T (not_minus y) → T (le (sqrt binary64 (at_least_zero (sub binary64 x y))) unit)
spread_most x y u k p = go (lt +0·0 (sub binary64 x y)) refl
  where
    go : (b : Bool) → lt +0·0 (sub binary64 x y) ≡ b → T (le (sqrt binary64 (cond b (sub binary64 x y) +0·0)) unit)
    go true h =
        let above : T (lt nought (sub binary64 x y)) = rw (← zero_is, h) tt in
        root-most (sub binary64 x y) (sub-fits binary64 x y) above (difference_most x y u k p above)
    go false h = rw zero_is zero_most
