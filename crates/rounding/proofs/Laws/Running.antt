-- What a rounded sum has come to is never -0.0 once it starts from +0.0: so it forgets the sign of a zero that is added.
use Rattle.std.specs.Prelude.{◌≡◌, Bool, true, false, not, ◌&&◌, ℕ, zero, suc, ◌+◌, ◌*◌, ◌-◌, ◌%◌, ◌^◌, ◌≤◌, ◌<◌, T, ltb, leb, eqb, ℤ, pos, negsuc, Float}
use Rattle.std.proofs.Math.Path.{refl}
use Rattle.std.proofs.Common.{sym, ap, ◌∙◌, add-mul, mul_comm, mul-pos, arith, lt-ltb, le-ltb, eqb→eq, leb→le, pow-add, pow_pos}
use Rattle.std.proofs.Math.Logic.{dite}
use Rattle.std.proofs.Math.Nat.{mul-sub}
use Rattle.std.proofs.Math.Decide.{dec_lt}
use Rattle.std.proofs.Math.Dec.{eqb-suc-zero}
use Rattle.std.proofs.Math.Pow.{pow-lt}
use Rattle.std.specs.Float.{nan, inf, fin, Format, binary32, binary64}
use Rattle.std.specs.Float.Ieee.{prec, emax, low, up, down, round, neg, sum, add, sub, fits}
use Rattle.std.specs.Float.Ieee.Fits.{up_pos, down_pos, and_l, and_r, neg-fits, add-fits}
use Rattle.std.specs.Float.Ieee.Order.{round_mono}
use Rattle.std.specs.Float.Ieee.Positive.{positive, above, above_of_le}
use Rattle.rounding.proofs.Laws.Sign.{round_not_minus}
use Rattle.rounding.specs.Laws.Sign.{not_minus}
use Rattle.rounding.proofs.Laws.Negation.{round_neg}
use Rattle.rounding.specs.Alike.{Alike, same, zeros}
use Rattle.rounding.proofs.Laws.Alike.{alike_neg, add_noughts, add_nought}
use Rattle.rounding.specs.Laws.Running.{minus_zero}

-- a number of the format that is not -0.0
pub record Running (f : Format) (a : Float) : Type 0 where
  pub fit : T (fits f a)
  pub plain : T (not (minus_zero a))

-- ---- it forgets the sign of a zero

add_same : (f : Format) (a : Float) {x y : Float} → T (not (minus_zero a)) → Alike x y → add f a x ≡ add f a y
add_same f a p same = refl
add_same f nan p zeros = unfold add in refl
add_same f (inf u) p zeros = unfold add in refl
add_same f (fin true zero c) p zeros = absurd p
add_same f (fin false zero c) p (zeros {s} {t} {d} {e}) = add_noughts f false c s d ∙ sym (add_noughts f false c t e)
add_same f (fin u (suc n) c) p (zeros {s} {t} {d} {e}) = add_nought f u n c s d ∙ sym (add_nought f u n c t e)

-- that is added
pub add_forgets : (f : Format) {a x y : Float} → Running f a → Alike x y → add f a x ≡ add f a y
add_forgets f {a} r h = add_same f a r.plain h

-- or subtracted
pub sub_forgets : (f : Format) {a x y : Float} → Running f a → Alike x y → sub f a x ≡ sub f a y
unfolding sub
sub_forgets f r h = add_forgets f r (alike_neg h)

-- ---- and comes to no -0.0

-- a / c is a whole number of the format's smallest values
record Whole (f : Format) (a c : ℕ) : Type 0 where
  count : ℕ
  is : a * 2 ^ low f ≡ count * c

-- so it is one of them at least, and is not rounded to zero
one-least : (n p k c : ℕ) → 0 < n * p → n * p ≡ k * c → 1 * c ≤ n * p
one-least n p zero c h e = absurd (omega arith)
one-least n p (suc k) c h e = omega arith

smallest : (f : Format) → T (positive (round f false 1 (2 ^ low f)))
unfolding round
smallest binary32 = tt
smallest binary64 = tt

above_neg : (z : Float) → T (above z) → T (not (minus_zero (neg z)))
unfolding neg
above_neg nan h = absurd h
above_neg (inf s) h = tt
above_neg (fin true m e) h = absurd h
above_neg (fin false zero e) h = absurd h
above_neg (fin false (suc m) e) h = rw (eqb-suc-zero m) tt

round_minus : (f : Format) (a c : ℕ) → 0 < a → 0 < c → Whole f a c → T (not (minus_zero (round f true a c)))
round_minus f a c p q u =
    rw (sym (round_neg f false a c))
    (above_neg (round f false a c)
    (above_of_le (round f false 1 (2 ^ low f)) (round f false a c) (smallest f)
    (round_mono f 1 (2 ^ low f) a c (pow_pos (low f)) q (one-least a (2 ^ low f) u.count c (mul-pos p (pow_pos (low f))) u.is))))

plain_of : (z : Float) → T (not_minus z) → T (not (minus_zero z))
plain_of nan h = tt
plain_of (inf s) h = tt
plain_of (fin true m e) h = absurd h
plain_of (fin false m e) h = tt

round_plus : (f : Format) (a c : ℕ) → T (not (minus_zero (round f false a c)))
round_plus f a c = plain_of (round f false a c) (round_not_minus f a c)

-- a sum and a difference of whole numbers are whole
whole_sum : {f : Format} {a b c : ℕ} → Whole f a c → Whole f b c → Whole f (a + b) c
whole_sum {f} {c = c} x y = record { count = x.count + y.count; is = rw (add-mul _ _ (2 ^ low f), add-mul _ _ c, x.is, y.is) }

whole_less : {f : Format} {a b c : ℕ} → Whole f a c → Whole f b c → Whole f (a - b) c
whole_less {f} {a} {b} {c} x y =
    let p : 2 ^ low f * a ≡ c * x.count = omega (arith, x.is) in
    let q : 2 ^ low f * b ≡ c * y.count = omega (arith, y.is) in
    record { count = x.count - y.count; is = rw (mul_comm (a - b) (2 ^ low f), mul_comm (x.count - y.count) c, mul-sub (2 ^ low f) a b, mul-sub c x.count y.count, p, q) }

-- unlike signs: the larger gives the sign, and +0.0 where neither is larger
sum_plain : (f : Format) (s : Bool) (a : ℕ) (t : Bool) (b c : ℕ) → 0 < c → Whole f a c → Whole f b c → (s ≡ true → 0 < a)
    → T (not (minus_zero (sum f s a t b c)))
unfolding sum
sum_plain f true a true b c p x y n = let m = n refl in round_minus f (a + b) c (omega arith) p (whole_sum x y)
sum_plain f false a false b c p x y n = round_plus f (a + b) c
sum_plain f true a false b c p x y n =
    dite (dec_lt a b)
    (λ l. rw (lt-ltb a b l) (round_plus f (b - a) c))
    (λ l.
    dite (dec_lt b a)
    (λ m. rw (le-ltb a b (omega arith), lt-ltb b a m) (round_minus f (a - b) c (omega arith) p (whole_less x y)))
    (λ m. rw (le-ltb a b (omega arith), le-ltb b a (omega arith)) (round_plus f (a - b) c)))
sum_plain f false a true b c p x y n =
    dite (dec_lt a b)
    (λ l. rw (lt-ltb a b l) (round_minus f (b - a) c (omega arith) p (whole_less y x)))
    (λ l. rw (le-ltb a b (omega arith)) (round_plus f (a - b) c))

-- ---- a number of the format is a whole number of its smallest values

abbrev per : Format → ℤ → ℕ
per f (pos k) = 2 ^ low f
per f (negsuc k) = 2 ^ (low f - suc k)

per-is : (f : Format) (e : ℤ) → down e ≤ 2 ^ low f → per f e * down e ≡ 2 ^ low f
per-is f (pos k) h = omega arith
per-is f (negsuc k) h =
    dite (dec_lt (low f) (suc k))
    (λ l. absurd (omega (arith, pow-lt l)))
    (λ l. let e : low f - suc k + suc k ≡ low f = omega arith in sym (pow-add 2 (low f - suc k) (suc k)) ∙ ap (λ z. 2 ^ z) e)

fits-least : (f : Format) (s : Bool) (m : ℕ) (e : ℤ) → T (fits f (fin s m e)) → down e ≤ 2 ^ low f
unfolding fits
fits-least f s zero (pos k) h = pow_pos (low f)
fits-least f s zero (negsuc k) h = omega (arith, eqb→eq (1 * 2 ^ suc k) 1 h, pow_pos (low f))
fits-least f s (suc m) e h =
    let a : Bool = eqb (suc m % 2) 1 && ltb (suc m) (2 ^ prec f) in
    let b : Bool = leb (down e) (2 ^ low f) in
    leb→le (down e) (2 ^ low f) (and_r a b (and_l (a && b) (ltb (suc m * up e) (2 ^ suc (emax f) * down e)) h))

whole_of : (f : Format) (s : Bool) (m : ℕ) (e : ℤ) (t : ℕ) → T (fits f (fin s m e)) → Whole f (m * up e * t) (down e * t)
whole_of f s m e t h = record { count = m * up e * per f e; is = rw (← per-is f e (fits-least f s m e h)) (omega arith) }

positive_of : (m : ℕ) (e d : ℤ) → T (not (eqb m 0)) → 0 < m * up e * down d
positive_of zero e d h = absurd h
positive_of (suc m) e d h = mul-pos (mul-pos (omega arith) (up_pos e)) (down_pos d)

add_plain : (f : Format) (a x : Float) → T (fits f a) → T (fits f x) → T (not (minus_zero a)) → T (not (minus_zero (add f a x)))
unfolding add
add_plain f nan x p q r = tt
add_plain f (inf s) nan p q r = tt
add_plain f (inf true) (inf true) p q r = tt
add_plain f (inf true) (inf false) p q r = tt
add_plain f (inf false) (inf true) p q r = tt
add_plain f (inf false) (inf false) p q r = tt
add_plain f (inf s) (fin t n d) p q r = tt
add_plain f (fin s m e) nan p q r = tt
add_plain f (fin s m e) (inf t) p q r = tt
add_plain f (fin s m e) (fin t n d) p q r =
    sum_plain f s _ t _ _ (mul-pos (down_pos e) (down_pos d)) (whole_of f s m e (down d) p)
    (rw (mul_comm (down e) (down d)) (whole_of f t n d (down e) q))
    (λ z. positive_of m e d (rw z at r))

-- what it comes to by a sum is such a number again
pub add_running : (f : Format) {a : Float} (x : Float) → Running f a → T (fits f x) → Running f (add f a x)
add_running f {a} x r h = record { fit = add-fits f a x; plain = add_plain f a x r.fit h r.plain }

-- and by a difference
pub sub_running : (f : Format) {a : Float} (x : Float) → Running f a → T (fits f x) → Running f (sub f a x)
unfolding sub
sub_running f x r h = add_running f (neg x) r (neg-fits f x h)
