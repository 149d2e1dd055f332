-- Sums that 26 lets pass, as the laws of rounding speak of them.
use Rattle.std.specs.Prelude.{◌≡◌, refl, Bool, true, false, ◌||◌, ◌&&◌, ◌⊎◌, ℕ, zero, suc, ◌+◌, ◌*◌, ◌-◌, ◌/◌, ◌^◌, ◌≤◌, T, eqb, ltb, ℤ, Float}
use Rattle.std.proofs.Common.{sym, ap, subst, ◌∙◌, inl, inr, zero-mul, mul-pos, arith, ltb-true, eqb-true}
use Rattle.std.proofs.Math.Nat.{zero-div}
use Rattle.std.specs.Float.{nan, inf, fin, binary64}
use Rattle.std.specs.Float.Ieee.{prec, low, up, down, hid, top, size, le, lt, eq, of_bits, of_int, to_bits}
use Rattle.std.specs.Float.Ieee.Fits.{up_pos, down_pos}
use Rattle.rounding.specs.Under.{nought}
use Rattle.rounding.specs.Whole.{whole}
use Rattle.rounding.proofs.Laws.Sign.{round_not_minus}
use Rattle.rounding.specs.Laws.Sign.{not_minus}
use Rattle.rounding.specs.Laws.Under.{Under}
use Rattle.rounding.proofs.Laws.Powers.{Chained}
use Rattle.estimate.specs.Estimates.{number, +0·0}
use Rattle.run_record.specs.Reading.{is_minus_zero}
use Rattle.run_record_bytes.specs.Described.{Sums}
use Rattle.run_record_bytes.proofs.Laws.Sums.{in_order_parts}

differ : {A : Type 0} → false ≡ true → A
differ e = absurd (subst T (sym e) tt)

either : (a b : Bool) → (a || b) ≡ true → (a ≡ true) ⊎ (b ≡ true)
either true b e = inl refl
either false b e = inr e

both : (a b : Bool) → (a && b) ≡ true → (a ≡ true) × (b ≡ true)
both true b e = (refl, e)
both false b e = differ e

-- ---- -0.0 by its bits, whatever its exponent

zero_bits : (n : ℕ) → n ≡ 0 → eqb (top binary64 + (size n - prec binary64) * hid binary64 + n / 2 ^ (size n - prec binary64)) 0x8000_0000_0000_0000 ≡ true
unfolding size
zero_bits n e = rw e

minus_zero : (d : ℤ) → is_minus_zero (fin true 0 d) ≡ true
unfolding to_bits
minus_zero d =
    zero_bits (0 * up d * 2 ^ low binary64 / down d)
    (ap (λ (z : ℕ). z * 2 ^ low binary64 / down d) (zero-mul (up d)) ∙ ap (λ (z : ℕ). z / down d) (zero-mul (2 ^ low binary64)) ∙ zero-div (down d))

level_zero : (m n : ℕ) (e d : ℤ) → m * up e * down d ≡ n * up d * down e → m * up e * down d ≡ 0 → n ≡ 0
level_zero m zero e d p q = refl
level_zero m (suc n) e d p q = absurd (omega (arith, mul-pos (mul-pos {m = suc n} {n = up d} (omega arith) (up_pos d)) (down_pos e)))

-- what is at least a number without a minus sign has none, but for -0.0
sign_of : (x y : Float) → T (not_minus x) → le x y ≡ true → is_minus_zero y ≡ false → T (not_minus y)
unfolding le lt eq
sign_of x nan p h z = tt
sign_of x (inf false) p h z = tt
sign_of x (fin false n d) p h z = tt
sign_of nan (inf true) p h z = differ h
sign_of (inf false) (inf true) p h z = differ h
sign_of (inf true) (inf true) p h z = absurd p
sign_of (fin s m e) (inf true) p h z = differ h
sign_of nan (fin true n d) p h z = differ h
sign_of (inf false) (fin true n d) p h z = differ h
sign_of (inf true) (fin true n d) p h z = absurd p
sign_of (fin true m e) (fin true n d) p h z = absurd p
sign_of (fin false m e) (fin true n d) p h z =
    let l = both (eqb (m * up e * down d) (n * up d * down e)) (eqb (m * up e * down d) 0) h in
    let w : n ≡ 0 = level_zero m n e d (eqb-true _ _ l.0) (eqb-true _ _ l.1) in
    differ (sym z ∙ ap (λ (k : ℕ). is_minus_zero (fin true k d)) w ∙ minus_zero d)

-- the order of such numbers is that of their sizes
le_under : (x y : Float) → T (not_minus x) → T (not_minus y) → le x y ≡ true → Under x y
unfolding le lt eq
le_under x nan p q h = record { sign = tt; size = λ k. absurd k }
le_under x (inf true) p q h = absurd q
le_under x (inf false) p q h = record { sign = tt; size = λ k. absurd k }
le_under x (fin true n d) p q h = absurd q
le_under nan (fin false n d) p q h = differ h
le_under (inf true) (fin false n d) p q h = absurd p
le_under (inf false) (fin false n d) p q h = differ h
le_under (fin true m e) (fin false n d) p q h = absurd p
le_under (fin false m e) (fin false n d) p q h = record { sign = tt; size = λ k. record { is_finite = tt; at_most = go (either _ _ h) } }
  where
    go : ((ltb (m * up e * down d) (n * up d * down e) ≡ true) ⊎ ((eqb (m * up e * down d) (n * up d * down e) && true) ≡ true)) → m * up e * down d ≤ n * up d * down e
    go (inl l) = let u = ltb-true (m * up e * down d) (n * up d * down e) l in omega arith
    go (inr l) = let u = eqb-true (m * up e * down d) (n * up d * down e) (both _ true l).0 in omega arith

zero_is : +0·0 ≡ nought
unfolding of_bits
zero_is = refl

number_is : (n : ℕ) → number n ≡ whole binary64 n
unfolding of_int
number_is n = refl

pub chained_of : (samples : ℕ) (squares fourths : Float) → Sums samples squares fourths → Chained binary64 fourths squares samples
chained_of samples squares fourths s =
    let o = in_order_parts samples squares fourths s.ordered in
    let p = sign_of nought fourths tt (ap (λ (z : Float). le z fourths) (sym zero_is) ∙ o.0) s.plain_fourths in
    let q = sign_of fourths squares p o.1 s.plain_squares in
    record {
      sign = p;
      fourths = le_under fourths squares p q o.1;
      squares = le_under squares (whole binary64 samples) q (round_not_minus binary64 samples 1) (ap (le squares) (sym (number_is samples)) ∙ o.2);
    }
