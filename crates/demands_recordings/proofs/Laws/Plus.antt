-- +0.0 and a double that carries no minus are that double; and such a double is not -0.0 by its bits.
use Rattle.std.specs.Prelude.{◌≡◌, true, false, ◌&&◌, ℕ, zero, suc, ◌+◌, ◌-◌, ◌*◌, ◌%◌, ◌^◌, ◌≤◌, ◌<◌, ℤ, pos, negsuc, T, leb, ltb, eqb, Float}
use Rattle.std.proofs.Math.Path.{refl}
use Rattle.std.proofs.Common.{sym, ap, ◌∙◌, subst, not-le_of_lt, lt_of_not-le, le_of_suc-le-suc, one-mul, mul-pos, mul-lt-mul_of_pos_right, lt_of_mul-lt-mul_right, arith, leb→le, ltb→lt, pow-add, pow_pos, ne_eqb}
use Rattle.std.proofs.Math.Pow.{pow-lt}
use Rattle.std.specs.Float.{nan, inf, fin, Format, binary64}
use Rattle.std.specs.Float.Ieee.{prec, emax, low, up, down, round, add, fits, of_bits, to_bits}
use Rattle.std.specs.Float.Ieee.Bits.{of_bits-to_bits}
use Rattle.std.specs.Float.Ieee.Fits.{and_l, and_r, down_pos, up_pos, round-fits}
use Rattle.std.specs.Float.Ieee.Exact.{HasValue, round_exact}
use Rattle.std.specs.Float.Ieee.Back.{whole_unique}
use Rattle.std.specs.Float.Ieee.Positive.{positive_of_value, value→cross}
use Rattle.nearest.proofs.Laws.Values.{same-value}
use Rattle.rounding.specs.Under.{nought}
use Rattle.rounding.specs.Laws.Sign.{not_minus}
use Rattle.rounding.proofs.Laws.Alike.{add_noughts, add_nought}
use Rattle.rounding.proofs.Laws.Commute.{sum_commutes}
use Rattle.run_record.specs.Reading.{is_minus_zero}

-- ---- a value that the format holds is not rounded

back : (k l : ℕ) → suc k ≤ l → l - suc k + suc k ≡ l
back k l h = omega arith

-- 2 ^ e is 2 ^ j of the smallest values
scaled : (f : Format) (e : ℤ) → down e ≤ 2 ^ low f → (j : ℕ) × (up e * 2 ^ low f ≡ 2 ^ j * down e)
scaled f (pos k) h = (k + low f, omega (arith, pow-add 2 k (low f)))
scaled f (negsuc k) h =
    let l : suc k ≤ low f = le_of_suc-le-suc (lt_of_not-le (λ (g : suc (low f) ≤ suc k). not-le_of_lt (pow-lt g) h)) in
    (low f - suc k, one-mul (2 ^ low f) ∙ ap (λ (x : ℕ). 2 ^ x) (sym (back k (low f) l)) ∙ pow-add 2 (low f - suc k) (suc k))

held : (f : Format) (m : ℕ) (e : ℤ) → m < 2 ^ prec f → down e ≤ 2 ^ low f → m * up e < 2 ^ suc (emax f) * down e
    → HasValue (round f false (m * up e) (down e)) false (m * up e) (down e)
held f m e a b c =
    let (j, g) = scaled f e b in
    let h : m * up e * 2 ^ low f ≡ m * 2 ^ j * down e = omega (arith, ap (λ (x : ℕ). m * x) g) in
    let i = mul-lt-mul_of_pos_right c (pow_pos (low f)) in
    let l : m * 2 ^ j * down e < 2 ^ (low f + suc (emax f)) * down e = rw pow-add (omega arith) in
    round_exact f false (m * up e) (down e) m j (down_pos e) a (lt_of_mul-lt-mul_right (down e) l) h

round_back : (f : Format) (m : ℕ) (e : ℤ) → T (fits f (fin false (suc m) e)) → round f false (suc m * up e) (down e) ≡ fin false (suc m) e
unfolding fits
round_back f m e h =
    let A = eqb (suc m % 2) 1 in
    let B = ltb (suc m) (2 ^ prec f) in
    let C = leb (down e) (2 ^ low f) in
    let D = ltb (suc m * up e) (2 ^ suc (emax f) * down e) in
    let v = held f (suc m) e
    (ltb→lt (suc m) (2 ^ prec f) (and_r A B (and_l (A && B) C (and_l (A && B && C) D h))))
    (leb→le (down e) (2 ^ low f) (and_r (A && B) C (and_l (A && B && C) D h)))
    (ltb→lt (suc m * up e) (2 ^ suc (emax f) * down e) (and_r (A && B && C) D h)) in
    let r = round f false (suc m * up e) (down e) in
    same-value f r (fin false (suc m) e) (round-fits f false (suc m * up e) (down e)) h
    (positive_of_value r (suc m * up e) (down e) v (mul-pos (omega arith) (up_pos e))) (positive_of_value (fin false (suc m) e) (suc m * up e) (down e) (refl, refl) (mul-pos (omega arith) (up_pos e)))
    (value→cross r (suc m * up e) (down e) v)

-- ---- +0.0 first

pub zero_plus : (x : Float) → T (fits binary64 x) → T (not_minus x) → add binary64 nought x ≡ x
zero_plus nan h p = unfold add in refl
zero_plus (inf s) h p = unfold add in refl
zero_plus (fin true m e) h p = absurd p
zero_plus (fin false zero e) h p =
    add_noughts binary64 false (pos 0) false e
    ∙ whole_unique binary64 (fin false 0 (pos 0)) (fin false 0 e) false 0 (unfold fits in tt) h (refl, omega arith) (refl, omega arith)
zero_plus (fin false (suc m) e) h p =
    sum_commutes binary64 nought (fin false (suc m) e) ∙ add_nought binary64 false m e false (pos 0) ∙ round_back binary64 m e h

-- ---- by its bits

minus_zero : of_bits binary64 0x8000_0000_0000_0000 ≡ fin true 0 (pos 0)
unfolding of_bits
minus_zero = refl

pub plain_bits : (x : Float) → T (fits binary64 x) → T (not_minus x) → is_minus_zero x ≡ false
plain_bits x h p =
    ne_eqb (to_bits binary64 x) 0x8000_0000_0000_0000
    (λ e. subst (λ (y : Float). T (not_minus y)) (sym (of_bits-to_bits binary64 x h) ∙ ap (of_bits binary64) e ∙ minus_zero) p)
