-- One configuration alone: its square over 1 is itself, and a value less itself is +0.0.
use Rattle.std.specs.Prelude.{◌≡◌, refl, Bool, true, false, ℕ, zero, suc, ◌*◌, ◌^◌, ◌<◌, ℤ, pos, negsuc, T, Float}
use Rattle.std.proofs.Common.{arith, mul-pos, le_refl, pow-suc, ltb→lt, lt→ltb, eqb→eq, pow_pos, le-ltb}
use Rattle.std.proofs.Math.Nat.{sub_self}
use Rattle.std.specs.Float.{nan, inf, fin, binary64}
use Rattle.std.specs.Float.Ieee.{up, down, round, sum, add, sub, mul, div, neg, lt, le, of_int, of_bits, fits}
use Rattle.std.specs.Float.Ieee.Exact.{HasValue, round_exact}
use Rattle.std.specs.Float.Ieee.Fits.{up_pos, down_pos, mul-fits, div-fits}
use Rattle.std.specs.Float.Ieee.Positive.{num, den, positive, value→cross, positive_of_value, den_pos}
use Rattle.std.specs.Float.Ieee.Scale.{finite, round_same}
use Rattle.nearest.proofs.Laws.Smallest.{in_smallest}
use Rattle.nearest.proofs.Laws.Values.{nonnegative-of, same-value}
use Rattle.rounding.specs.Under.{nought, unit}
use Rattle.rounding.proofs.Laws.Sign.{square-not_minus}
use Rattle.sqrt.specs.Sqrt.{sqrt}
use Rattle.estimate.specs.Estimates.{number, at_least_zero}
use Rattle.estimate_complete.specs.Complete.{spread_of}
use Rattle.estimate_complete.proofs.Laws.Order.{minus_zero, at-least-nought}
use Rattle.estimate_complete.proofs.Laws.Mean.{round_nought}

number-one : number 1 ≡ unit
unfolding of_int round
number-one = refl

-- a value of the format over 1
over-one : (m : ℕ) (e : ℤ) → div binary64 (fin false m e) unit ≡ round binary64 false (m * up e) (down e)
unfolding div
over-one m e = round_same binary64 false (m * up e * 1) (1 * 1 * down e) (m * up e) (down e) (omega (arith, down_pos e)) (down_pos e) (omega arith)

positive-over-one : (x : Float) → T (fits binary64 x) → T (positive x) → div binary64 x unit ≡ x
positive-over-one nan h p = absurd p
positive-over-one (inf s) h p = absurd p
positive-over-one (fin true m e) h p = absurd p
positive-over-one (fin false m e) h p =
    let x = fin false m e in
    let (q, j, u) = in_smallest binary64 x h (nonnegative-of x p) in
    let v : HasValue (div binary64 x unit) false (num x) (den x) =
    rw (over-one m e) (round_exact binary64 false (num x) (den x) q j (den_pos x) u.short u.bounded u.same) in
    same-value binary64 (div binary64 x unit) x (div-fits binary64 x unit) h
    (positive_of_value (div binary64 x unit) (num x) (den x) v (mul-pos (ltb→lt 0 m p) (up_pos e))) p
    (value→cross (div binary64 x unit) (num x) (den x) v)

-- a zero is written in one way, with exponent 0
no_power : (k : ℕ) → 2 ^ suc k ≡ 1 → ⊥
no_power k h = omega (arith, pow-suc 2 k, pow_pos k)

zero_held : (s : Bool) (e : ℤ) → T (fits binary64 (fin s zero e)) → e ≡ pos 0
unfolding fits
zero_held s (pos zero) h = refl
zero_held s (pos (suc k)) h = absurd (no_power k (let q = eqb→eq (2 ^ suc k * 1) 1 h in omega arith))
zero_held s (negsuc k) h = absurd (no_power k (let q = eqb→eq (1 * 2 ^ suc k) 1 h in omega arith))

zero_over_one : (s : Bool) → div binary64 (fin s zero (pos 0)) (number 1) ≡ fin s zero (pos 0)
unfolding div of_int round
zero_over_one true = refl
zero_over_one false = refl

pub itself_over_one : (x : Float) → T (fits binary64 x) → T (le nought x) → T (finite x) → div binary64 x (number 1) ≡ x
itself_over_one nan h l k = absurd k
itself_over_one (inf s) h l k = absurd k
itself_over_one (fin s zero e) h l k = rw (zero_held s e h) (zero_over_one s)
itself_over_one (fin false (suc m) e) h l k = rw number-one (positive-over-one (fin false (suc m) e) h (lt→ltb 0 (suc m) (omega arith)))
itself_over_one (fin true (suc m) e) h l k =
    absurd (let z : 0 < suc m * up e = mul-pos (omega arith) (up_pos e) in omega (arith, minus_zero (suc m) e l))

pub less_itself : (x : Float) → T (finite x) → sub binary64 x x ≡ nought
unfolding sub neg add sum
less_itself nan k = absurd k
less_itself (inf s) k = absurd k
less_itself (fin true m e) k =
    let a = m * up e * down e in
    rw (le-ltb a a (le_refl a), sub_self a) (round_nought false (down e * down e) (mul-pos (down_pos e) (down_pos e)))
less_itself (fin false m e) k =
    let a = m * up e * down e in
    rw (le-ltb a a (le_refl a), sub_self a) (round_nought false (down e * down e) (mul-pos (down_pos e) (down_pos e)))

no_root : sqrt binary64 (at_least_zero nought) ≡ nought
unfolding sqrt lt of_bits
no_root = refl

pub no_spread : (x : Float) → T (fits binary64 x) → T (le nought x) → T (finite x) → T (finite (mul binary64 x x))
    → spread_of (number 1) x (mul binary64 x x) ≡ nought
no_spread x h l k j =
    let y = mul binary64 x x in
    rw (itself_over_one x h l k, itself_over_one y (mul-fits binary64 x x) (at-least-nought y j (square-not_minus binary64 x)) j, less_itself y j) no_root
