-- The library's rounding gives the value nearest a fraction, and that is the only one.
use Rattle.std.specs.Prelude.{◌≡◌, false, ℕ, ◌+◌, ◌-◌, ◌*◌, ◌%◌, ◌^◌, ◌≤◌, ◌<◌, T, Float}
use Rattle.std.proofs.Common.{ap, lt_of_lt_of_le, mul-pos, mul_comm, arith, pow_pos}
use Rattle.std.specs.Float.{Format}
use Rattle.std.specs.Float.Ieee.{prec, low, round, lt}
use Rattle.std.specs.Float.Ieee.Exact.{HasValue}
use Rattle.std.specs.Float.Ieee.Fits.{two, round-fits}
use Rattle.std.specs.Float.Ieee.Order.{drop, kept}
use Rattle.std.specs.Float.Ieee.Scale.{grid, overflow, round_val}
use Rattle.std.specs.Float.Ieee.Positive.{num, den, positive, den_pos, value→cross, positive_of_value}
use Rattle.nearest.specs.Nearest.{NearestTo}
use Rattle.nearest.proofs.Laws.Smallest.{in_smallest}
use Rattle.nearest.proofs.Laws.Values.{order-of, nonnegative-of, lt→cross, cross→lt, same-value}
use Rattle.nearest.proofs.Laws.Middles.{rounded-within, middle_under, middle_over, sum-under, sum_over}

-- ---- rounding gives it, where the fraction is in the normal range, does not overflow, and is in no middle of two values
pub round_nearest : (f : Format) (a b : ℕ) → 0 < b → 2 ^ (prec f - 1) * b ≤ a * 2 ^ low f → grid f a b < overflow f
    → let n = a * 2 ^ low f in let u = b * 2 ^ drop (prec f) n b in (n % u * 2 ≡ u → ⊥) → NearestTo f a b (round f false a b)
round_nearest f a b B N O t =
    let l = 2 ^ low f in
    let L = pow_pos (low f) in
    let n = a * l in
    let p = prec f in
    let q = kept p n b in
    let k = drop p n b in
    let W = rounded-within f a b B N t in
    let z = q * 2 ^ k in
    let v = round f false a b in
    let hv : HasValue v false z l = round_val f a b O in
    let ev : num v * l ≡ z * den v = value→cross v z l hv in
    let Z : 0 < z = mul-pos (lt_of_lt_of_le (pow_pos (p - 1)) W.long) (pow_pos k) in
    let pv : T (positive v) = positive_of_value v z l hv Z in
    let nv = nonnegative-of v pv in
    record {
      held = round-fits f false a b;
      above = pv;
      smaller = λ y fy ny t.
          let (m, i, s) = in_smallest f y fy ny in
          let o = order-of l (den y) (den v) (num y) (num v) (m * 2 ^ i) z L s.same ev (lt→cross y v ny nv t) in
          sum-under l a b (den y) (den v) (num y) (num v) (m * 2 ^ i) z (den_pos y) (den_pos v) s.same ev
          (middle_under p n b q k (two f) B W m i s.short o);
      larger = λ y fy ny t.
          let (m, i, s) = in_smallest f y fy ny in
          let o = order-of l (den v) (den y) (num v) (num y) z (m * 2 ^ i) L ev s.same (lt→cross v y nv ny t) in
          sum_over l a b (den y) (den v) (num y) (num v) (m * 2 ^ i) z (den_pos y) (den_pos v) s.same ev
          (middle_over p n b q k (two f) B W m i s.short o);
    }

-- ---- it is the only one
-- the middle of two nearest values would be both below and above the fraction
clash : (f : Format) (a b : ℕ) (r s : Float) → NearestTo f a b r → NearestTo f a b s → num r * den s < num s * den r → ⊥
clash f a b r s R S h =
    let t : T (lt r s) = cross→lt r s R.above S.above h in
    let over = R.larger s S.held (nonnegative-of s S.above) t in
    let under = S.smaller r R.held (nonnegative-of r R.above) t in
    go (num r * den s) (num s * den r) (den r * den s) (den s * den r) b (2 * a) (mul_comm (den r) (den s)) over under
  where
    go : (x y d e b n : ℕ) → d ≡ e → n * e < (y + x) * b → (x + y) * b < n * d → ⊥
    go x y d e b n q u v = let w : n * d ≡ n * e = ap (λ (z : ℕ). n * z) q in omega arith

pub nearest-only : (f : Format) (a b : ℕ) (r s : Float) → NearestTo f a b r → NearestTo f a b s → r ≡ s
nearest-only f a b r s R S =
    same-value f r s R.held S.held R.above S.above
    (level (num r * den s) (num s * den r) (clash f a b r s R S) (clash f a b s r S R))
  where
    level : (x y : ℕ) → (x < y → ⊥) → (y < x → ⊥) → x ≡ y
    level x y p q = omega (arith, p, q)
