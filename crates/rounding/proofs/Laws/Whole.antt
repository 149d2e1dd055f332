-- Laws of what specs/Whole defines.
use Rattle.std.specs.Prelude.{◌≡◌, refl, ℕ, zero, suc, ◌+◌, ◌-◌, ◌*◌, ◌%◌, ◌^◌, ◌≤◌, ◌<◌, Bool, false, ◌&&◌, ℤ, pos, negsuc, T, leb, ltb, eqb, Float}
use Rattle.std.proofs.Common.{sym, ap, ◌∙◌, subst, le_of_eq, not-le_of_lt, lt_of_not-le, le_of_suc-le-suc, zero-mul, one-mul, mul-pos, mul-lt-mul_of_pos_right, lt_of_mul-lt-mul_right, arith, leb→le, ltb→lt, pow-add, pow_pos}
use Rattle.std.proofs.Math.Pow.{pow-lt}
use Rattle.std.specs.Float.{nan, inf, fin, Format, binary32, binary64}
use Rattle.std.specs.Float.Ieee.{prec, emax, low, up, down, round, add, mul, fits}
use Rattle.std.specs.Float.Ieee.Fits.{and_l, and_r, down_pos}
use Rattle.std.specs.Float.Ieee.Exact.{HasValue, round_exact}
use Rattle.std.specs.Float.Ieee.Back.{round_whole}
use Rattle.std.specs.Float.Ieee.Scale.{finite, round_same}
use Rattle.std.specs.Float.Ieee.Positive.{num, den, den_pos, positive, positive_of_value, value→cross}
use Rattle.rounding.specs.Sign.{abs}
use Rattle.rounding.proofs.Laws.Sign.{round_not_minus, mul_abs, add_is}
use Rattle.rounding.specs.Laws.Sign.{not_minus}
use Rattle.rounding.specs.Under.{unit, nought}
use Rattle.rounding.proofs.Laws.Under.{under_refl, under_trans, mul_under, within-abs}
use Rattle.rounding.specs.Laws.Under.{Within, Under}
use Rattle.rounding.specs.Whole.{whole}

-- ---- rounding gives back a value that the format holds
back : (k l : ℕ) → suc k ≤ l → l - suc k + suc k ≡ l
back k l h = omega arith

-- 2 ^ e is 2 ^ j of the smallest values
scaled : (f : Format) (e : ℤ) → down e ≤ 2 ^ low f → (j : ℕ) × (up e * 2 ^ low f ≡ 2 ^ j * down e)
scaled f (pos k) h = (k + low f, omega (arith, pow-add 2 k (low f)))
scaled f (negsuc k) h =
    let l : suc k ≤ low f = le_of_suc-le-suc (lt_of_not-le (λ (g : suc (low f) ≤ suc k). not-le_of_lt (pow-lt g) h)) in
    (low f - suc k, one-mul (2 ^ low f) ∙ ap (λ (x : ℕ). 2 ^ x) (sym (back k (low f) l)) ∙ pow-add 2 (low f - suc k) (suc k))

held : (f : Format) (m : ℕ) (e : ℤ) → m < 2 ^ prec f → down e ≤ 2 ^ low f → m * up e < 2 ^ suc (emax f) * down e
    → HasValue (round f false (m * up e) (down e)) false (m * up e) (down e)
held f m e a b c =
    let (j, g) = scaled f e b in
    let h : m * up e * 2 ^ low f ≡ m * 2 ^ j * down e = omega (arith, ap (λ (x : ℕ). m * x) g) in
    let i = mul-lt-mul_of_pos_right c (pow_pos (low f)) in
    let l : m * 2 ^ j * down e < 2 ^ (low f + suc (emax f)) * down e = rw pow-add (omega arith) in
    round_exact f false (m * up e) (down e) m j (down_pos e) a (lt_of_mul-lt-mul_right (down e) l) h

round_held : (f : Format) (x : Float) → T (fits f x) → T (finite x) → HasValue (round f false (num x) (den x)) false (num x) (den x)
unfolding fits
round_held f nan h k = absurd k
round_held f (inf s) h k = absurd k
round_held f (fin s zero e) h k =
    round_exact f false (zero * up e) (down e) 0 0 (down_pos e) (pow_pos (prec f)) (pow_pos (low f + suc (emax f)))
    (ap (λ (x : ℕ). x * 2 ^ low f) (zero-mul (up e)) ∙ zero-mul (2 ^ low f) ∙ sym (zero-mul (down e)))
round_held f (fin s (suc m) e) h k =
    let A = eqb (suc m % 2) 1 in
    let B = ltb (suc m) (2 ^ prec f) in
    let C = leb (down e) (2 ^ low f) in
    let D = ltb (suc m * up e) (2 ^ suc (emax f) * down e) in
    held f (suc m) e
    (ltb→lt (suc m) (2 ^ prec f) (and_r A B (and_l (A && B) C (and_l (A && B && C) D h))))
    (leb→le (down e) (2 ^ low f) (and_r (A && B) C (and_l (A && B && C) D h)))
    (ltb→lt (suc m * up e) (2 ^ suc (emax f) * down e) (and_r (A && B && C) D h))

-- ---- a factor of at most 1
value-finite : (x : Float) (s : Bool) (a c : ℕ) → HasValue x s a c → T (finite x)
value-finite nan s a c h = h
value-finite (inf t) s a c h = h
value-finite (fin t m e) s a c h = tt

value-within : (w x : Float) → HasValue w false (num x) (den x) → Within w x
value-within w x h = record { is_finite = value-finite w false (num x) (den x) h; at_most = le_of_eq (value→cross w (num x) (den x) h) }

unit_mul : (f : Format) (x : Float) → T (fits f x) → T (not_minus x) → Under (mul f unit x) x
unit_mul f x h p = record {
  sign = p;
  size = λ (k : T (finite x)).
      let same = round_same f false (1 * num x) (1 * den x) (num x) (den x) (mul-pos (pow_pos 0) (den_pos x)) (den_pos x) (simp one-mul) in
      let is = mul_abs f unit x tt k ∙ same in
      within-abs (mul f unit x) x
      (value-within (abs (mul f unit x)) x (subst (λ (z : Float). HasValue z false (num x) (den x)) (sym is) (round_held f x h k)));
}

pub mul_shrinks : (f : Format) {a x : Float} → Under a unit → T (fits f x) → T (not_minus x) → Under (mul f a x) x
mul_shrinks f {a} {x} u h p = under_trans (mul_under f u (under_refl x p)) (unit_mul f x h p)

pub whole-nought : (f : Format) → whole f 0 ≡ nought
unfolding round
whole-nought binary32 = refl
whole-nought binary64 = refl

pub whole-finite : (f : Format) (n : ℕ) → n ≤ 2 ^ prec f → T (finite (whole f n))
whole-finite f n h = value-finite (whole f n) false n 1 (round_whole f false n h)

pub whole-positive : (f : Format) (n : ℕ) → 0 < n → n ≤ 2 ^ prec f → T (positive (whole f n))
whole-positive f n p h = positive_of_value (whole f n) n 1 (round_whole f false n h) p

pub add_whole : (f : Format) (a b : ℕ) → a + b ≤ 2 ^ prec f → add f (whole f a) (whole f b) ≡ whole f (a + b)
add_whole f a b h =
    let x = whole f a in
    let y = whole f b in
    let A : a ≤ 2 ^ prec f = omega arith in
    let B : b ≤ 2 ^ prec f = omega arith in
    let p = ap (λ (n : ℕ). n * den y) (value→cross x a 1 (round_whole f false a A)) in
    let q = ap (λ (n : ℕ). n * den x) (value→cross y b 1 (round_whole f false b B)) in
    add_is f x y (whole-finite f a A) (whole-finite f b B) (round_not_minus f a 1) (round_not_minus f b 1)
    ∙ round_same f false (num x * den y + num y * den x) (den x * den y) (a + b) 1 (mul-pos (den_pos x) (den_pos y)) (pow_pos 0)
    (omega arith)
