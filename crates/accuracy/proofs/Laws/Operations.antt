-- The rounded sum, difference, product and quotient of doubles are roundings of the exact ones, where they are finite.
use Rattle.std.specs.Prelude.{◌≡◌, refl, Bool, true, false, cond, not, ◌&&◌, ℕ, suc, ◌+◌, ◌*◌, ◌-◌, ◌≤◌, ◌<◌, T, ltb, eqb, Float, ℤ}
use Rattle.std.proofs.Common.{sym, ◌∙◌, ap, ap₂, subst, mul-pos, mul_comm, arith, lt-ltb, ltb→lt, nltb→le, eqb→eq}
use Rattle.std.specs.Float.{nan, inf, fin, binary64}
use Rattle.std.specs.Float.Ieee.{up, down, unlike, round, sum, add, sub, mul, div, neg}
use Rattle.std.specs.Float.Ieee.Fits.{down_pos, up_pos}
use Rattle.std.specs.Float.Ieee.Positive.{positive}
use Rattle.std.specs.Float.Ieee.Scale.{finite}
use Rattle.fraction.specs.Raw.{bottoms}
use Rattle.fraction.proofs.Fraction.{frac, sound, addℚ, mulℚ, negℚ, invℚ}
use Rattle.fraction.proofs.Value.{value}
use Rattle.accuracy.proofs.Laws.Ring.{◌⊹◌, ◌⋆◌, ‐◌}
use Rattle.accuracy.proofs.Laws.Rounds.{Rounds, signed, round_rounds, suc_before}

-- ---- sums of signed fractions of one bottom, which is d + 1

plus-plus : (a b d : ℕ) → frac a 0 d ⊹ frac b 0 d ≡ frac (a + b) 0 d
unfolding addℚ bottoms
plus-plus a b d = sound (omega arith)

minus_minus : (a b d : ℕ) → frac 0 a d ⊹ frac 0 b d ≡ frac 0 (a + b) d
unfolding addℚ bottoms
minus_minus a b d = sound (omega arith)

plus-minus : (a b k d : ℕ) → b ≡ a + k → frac a 0 d ⊹ frac 0 b d ≡ frac 0 k d
unfolding addℚ bottoms
plus-minus a b k d e = rw e (sound (omega arith))

minus_plus : (a b k d : ℕ) → b ≡ a + k → frac 0 a d ⊹ frac b 0 d ≡ frac k 0 d
unfolding addℚ bottoms
minus_plus a b k d e = rw e (sound (omega arith))

plus_minus' : (a b k d : ℕ) → a ≡ b + k → frac a 0 d ⊹ frac 0 b d ≡ frac k 0 d
unfolding addℚ bottoms
plus_minus' a b k d e = rw e (sound (omega arith))

minus_plus' : (a b k d : ℕ) → a ≡ b + k → frac 0 a d ⊹ frac b 0 d ≡ frac 0 k d
unfolding addℚ bottoms
minus_plus' a b k d e = rw e (sound (omega arith))

sum_rounds : (s : Bool) (a : ℕ) (t : Bool) (b c : ℕ) → 0 < c → T (finite (sum binary64 s a t b c))
    → Rounds (sum binary64 s a t b c) (signed s a c ⊹ signed t b c)
unfolding sum
sum_rounds true a true b c C h = subst (Rounds (round binary64 true (a + b) c)) (sym (minus_minus a b (c - 1))) (round_rounds c C (a + b) true h)
sum_rounds false a false b c C h = subst (Rounds (round binary64 false (a + b) c)) (sym (plus-plus a b (c - 1))) (round_rounds c C (a + b) false h)
sum_rounds true a false b c C h = go (ltb a b) (ltb b a) (ltb→lt a b) (nltb→le a b) (ltb→lt b a) (nltb→le b a) h
  where
    go : (x y : Bool) → (T x → a < b) → (T (not x) → b ≤ a) → (T y → b < a) → (T (not y) → a ≤ b)
        → T (finite (cond x (round binary64 false (b - a) c) (round binary64 (true && y) (a - b) c)))
        → Rounds (cond x (round binary64 false (b - a) c) (round binary64 (true && y) (a - b) c)) (frac 0 a (c - 1) ⊹ frac b 0 (c - 1))
    go true y p q r s k =
        let l = p tt in
        subst (Rounds (round binary64 false (b - a) c)) (sym (minus_plus a b (b - a) (c - 1) (omega arith))) (round_rounds c C (b - a) false k)
    go false true p q r s k =
        let l = q tt in
        subst (Rounds (round binary64 true (a - b) c)) (sym (minus_plus' a b (a - b) (c - 1) (omega arith))) (round_rounds c C (a - b) true k)
    go false false p q r s k =
        let l = q tt in
        let m = s tt in
        let z : a - b ≡ 0 = omega arith in
        subst (Rounds (round binary64 false (a - b) c)) (ap (λ (n : ℕ). frac n 0 (c - 1)) z ∙ sym (minus_plus a b 0 (c - 1) (omega arith)))
        (round_rounds c C (a - b) false k)
sum_rounds false a true b c C h = go (ltb a b) (ltb→lt a b) (nltb→le a b) h
  where
    go : (x : Bool) → (T x → a < b) → (T (not x) → b ≤ a)
        → T (finite (cond x (round binary64 true (b - a) c) (round binary64 (false && ltb b a) (a - b) c)))
        → Rounds (cond x (round binary64 true (b - a) c) (round binary64 (false && ltb b a) (a - b) c)) (frac a 0 (c - 1) ⊹ frac 0 b (c - 1))
    go true p q k =
        let l = p tt in
        subst (Rounds (round binary64 true (b - a) c)) (sym (plus-minus a b (b - a) (c - 1) (omega arith))) (round_rounds c C (b - a) true k)
    go false p q k =
        let l = q tt in
        subst (Rounds (round binary64 false (a - b) c)) (sym (plus_minus' a b (a - b) (c - 1) (omega arith))) (round_rounds c C (a - b) false k)

-- ---- the same number over a larger bottom

wider : (s : Bool) (a c d : ℕ) → 0 < c → 0 < d → signed s a c ≡ signed s (a * d) (c * d)
wider s a c d C D = go s (suc_before (c * d) (mul-pos C D))
  where
    even : suc (c * d - 1) ≡ c * d → a * suc (c * d - 1) ≡ a * d * suc (c - 1)
    even e = let f : suc (c - 1) ≡ c = omega arith in rw (e, f) (omega arith)

    go : (s : Bool) → suc (c * d - 1) ≡ c * d → signed s a c ≡ signed s (a * d) (c * d)
    go true e = sound (omega (arith, even e))
    go false e = sound (omega (arith, even e))

-- The value of a finite double, as a signed fraction.
pub value-signed : (s : Bool) (m : ℕ) (e : ℤ) → value (fin s m e) ≡ signed s (m * up e) (down e)
unfolding value
value-signed true m e = refl
value-signed false m e = refl

-- The rounded sum,
pub add_rounds : (x y : Float) → T (finite (add binary64 x y)) → Rounds (add binary64 x y) (value x ⊹ value y)
unfolding add
add_rounds nan y h = absurd h
add_rounds (inf s) nan h = absurd h
add_rounds (inf true) (inf true) h = absurd h
add_rounds (inf true) (inf false) h = absurd h
add_rounds (inf false) (inf true) h = absurd h
add_rounds (inf false) (inf false) h = absurd h
add_rounds (inf s) (fin t n d) h = absurd h
add_rounds (fin s m e) nan h = absurd h
add_rounds (fin s m e) (inf t) h = absurd h
add_rounds (fin s m e) (fin t n d) h =
    let c = down e * down d in
    let a = m * up e * down d in
    let b = n * up d * down e in
    let p = value-signed s m e ∙ wider s (m * up e) (down e) (down d) (down_pos e) (down_pos d) in
    let q = value-signed t n d ∙ wider t (n * up d) (down d) (down e) (down_pos d) (down_pos e)
    ∙ ap (λ (k : ℕ). signed t b k) (mul_comm (down d) (down e)) in
    subst (Rounds (sum binary64 s a t b c)) (sym (ap₂ addℚ p q)) (sum_rounds s a t b c (mul-pos (down_pos e) (down_pos d)) h)

pub value_neg : (x : Float) → value (neg x) ≡ ‐ (value x)
unfolding value neg negℚ
value_neg nan = refl
value_neg (inf s) = refl
value_neg (fin true m e) = refl
value_neg (fin false m e) = refl

-- the rounded difference,
pub sub_rounds : (x y : Float) → T (finite (sub binary64 x y)) → Rounds (sub binary64 x y) (value x ⊹ ‐ (value y))
unfolding sub
sub_rounds x y h = subst (Rounds (add binary64 x (neg y))) (ap (addℚ (value x)) (value_neg y)) (add_rounds x (neg y) h)

-- ---- products

bottom_mul : (a b c d : ℕ) → 0 < c → 0 < d → suc (bottoms (c - 1) (d - 1)) ≡ suc (c * d - 1)
unfolding bottoms
bottom_mul a b c d C D = let e : suc (c * d - 1) ≡ c * d = suc_before (c * d) (mul-pos C D) in rw e (go (c - 1) (d - 1) (omega arith) (omega arith))
  where
    go : (x y : ℕ) → c ≡ suc x → d ≡ suc y → suc (x * y + x + y) ≡ c * d
    go x y p q = rw (p, q) (omega arith)

pub mul_signed : (s t : Bool) (a b c d : ℕ) → 0 < c → 0 < d → signed s a c ⋆ signed t b d ≡ signed (unlike s t) (a * b) (c * d)
unfolding mulℚ
mul_signed true true a b c d C D = sound (rw (bottom_mul a b c d C D) (omega arith))
mul_signed true false a b c d C D = sound (rw (bottom_mul a b c d C D) (omega arith))
mul_signed false true a b c d C D = sound (rw (bottom_mul a b c d C D) (omega arith))
mul_signed false false a b c d C D = sound (rw (bottom_mul a b c d C D) (omega arith))

not_finite : (b s : Bool) → T (finite (cond b nan (inf s))) → ⊥
not_finite true s h = h
not_finite false s h = h

-- the rounded product,
pub mul_rounds : (x y : Float) → T (finite (mul binary64 x y)) → Rounds (mul binary64 x y) (value x ⋆ value y)
unfolding mul
mul_rounds nan y h = absurd h
mul_rounds (inf s) nan h = absurd h
mul_rounds (inf s) (inf t) h = absurd h
mul_rounds (inf s) (fin t n d) h = absurd (not_finite (eqb n 0) (unlike s t) h)
mul_rounds (fin s m e) nan h = absurd h
mul_rounds (fin s m e) (inf t) h = absurd (not_finite (eqb m 0) (unlike s t) h)
mul_rounds (fin s m e) (fin t n d) h =
    let a = m * up e in
    let b = n * up d in
    subst (Rounds (round binary64 (unlike s t) (a * b) (down e * down d)))
    (sym (ap₂ mulℚ (value-signed s m e) (value-signed t n d) ∙ mul_signed s t a b (down e) (down d) (down_pos e) (down_pos d)))
    (round_rounds (down e * down d) (mul-pos (down_pos e) (down_pos d)) (a * b) (unlike s t) h)

-- ---- quotients by what is above zero

pub inv_frac : (b d : ℕ) → 0 < b → 0 < d → invℚ (frac b 0 (d - 1)) ≡ signed false d b
unfolding invℚ
inv_frac b d B D = rw (lt-ltb 0 b B) (ap (λ (n : ℕ). frac n 0 (b - 1)) (suc_before d D))

-- A quotient by a number above zero is no quotient by zero.
pub dividing : (n : ℕ) (x y : Float) → 0 < n → cond (eqb n 0) x y ≡ y
dividing n x y h = go (eqb n 0) (eqb→eq n 0)
  where
    go : (b : Bool) → (T b → n ≡ 0) → cond b x y ≡ y
    go true e = absurd (let z = e tt in omega arith)
    go false e = refl

-- and the rounded quotient by a double above zero.
pub div_rounds : (x y : Float) → T (positive y) → T (finite (div binary64 x y)) → Rounds (div binary64 x y) (value x ⋆ invℚ (value y))
unfolding div
div_rounds nan y p h = absurd h
div_rounds (inf s) nan p h = absurd h
div_rounds (inf s) (inf t) p h = absurd h
div_rounds (inf s) (fin t n d) p h = absurd h
div_rounds (fin s m e) nan p h = absurd p
div_rounds (fin s m e) (inf t) p h = absurd p
div_rounds (fin s m e) (fin true n d) p h = absurd p
div_rounds (fin s m e) (fin false n d) p h =
    let N = ltb→lt 0 n p in
    let a = m * up e in
    let b = n * up d in
    let B = mul-pos N (up_pos d) in
    let z = round binary64 (unlike s false) (a * down d) (b * down e) in
    let is = dividing n (cond (eqb m 0) nan (inf (unlike s false))) z N in
    let q : value (fin s m e) ⋆ invℚ (value (fin false n d)) ≡ signed (unlike s false) (a * down d) (b * down e) =
    ap₂ mulℚ (value-signed s m e) (ap invℚ (value-signed false n d) ∙ inv_frac b (down d) B (down_pos d))
    ∙ mul_signed s false a (down d) (down e) b (down_pos e) B
    ∙ ap (signed (unlike s false) (a * down d)) (mul_comm (down e) b) in
    subst (λ (v : Float). Rounds v (value (fin s m e) ⋆ invℚ (value (fin false n d)))) (sym is)
    (subst (Rounds z) (sym q)
    (round_rounds (b * down e) (mul-pos B (down_pos e)) (a * down d) (unlike s false) (subst (λ (v : Float). T (finite v)) is h)))
