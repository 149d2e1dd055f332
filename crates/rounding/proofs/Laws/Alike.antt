-- Laws of what specs/Alike defines.
use Rattle.std.specs.Prelude.{◌≡◌, refl, Bool, true, false, cond, not, ◌&&◌, ℕ, zero, suc, ◌+◌, ◌*◌, ◌-◌, ◌<◌, ltb, ℤ, pos, Float}
use Rattle.std.proofs.Common.{◌∙◌, mul-pos, arith, lt-ltb, le-ltb}
use Rattle.std.proofs.Math.Logic.{dite}
use Rattle.std.proofs.Math.Decide.{dec_lt}
use Rattle.std.specs.Float.{nan, inf, fin, Format, binary32, binary64}
use Rattle.std.specs.Float.Ieee.{up, down, unlike, round, neg, sum, add, mul}
use Rattle.std.specs.Float.Ieee.Fits.{up_pos, down_pos}
use Rattle.std.specs.Float.Ieee.Scale.{round_same}
use Rattle.rounding.proofs.Laws.Commute.{and-true, and-false, sum_commutes, product_commutes}
use Rattle.rounding.proofs.Laws.Negation.{round_neg}
use Rattle.rounding.specs.Alike.{Alike, same, zeros}

-- what is the same is alike
pub alike_is : {x y : Float} → x ≡ y → Alike x y
alike_is e = rw e same

-- either way round
pub alike_sym : {x y : Float} → Alike x y → Alike y x
alike_sym same = same
alike_sym zeros = zeros

-- and in a chain
pub alike_trans : {x y z : Float} → Alike x y → Alike y z → Alike x z
alike_trans same q = q
alike_trans zeros same = zeros
alike_trans zeros zeros = zeros

-- ---- zeros, rounded and summed

rounded-nought : (f : Format) (s : Bool) → round f s 0 1 ≡ fin s 0 (pos 0)
unfolding round
rounded-nought binary32 s = refl
rounded-nought binary64 s = refl

round_nought : (f : Format) (s : Bool) (a c : ℕ) → a ≡ 0 → 0 < c → round f s a c ≡ fin s 0 (pos 0)
round_nought f s a c e p = round_same f s a c 0 1 p (omega arith) (omega arith) ∙ rounded-nought f s

-- a zero is -0 where both are
sum_noughts : (f : Format) (s : Bool) (a : ℕ) (t : Bool) (b c : ℕ) → a ≡ 0 → b ≡ 0 → 0 < c → sum f s a t b c ≡ fin (s && t) 0 (pos 0)
unfolding sum
sum_noughts f true a true b c p q r = round_nought f true (a + b) c (omega arith) r
sum_noughts f false a false b c p q r = round_nought f false (a + b) c (omega arith) r
sum_noughts f true a false b c p q r = rw (le-ltb a b (omega arith), le-ltb b a (omega arith)) (round_nought f false (a - b) c (omega arith) r)
sum_noughts f false a true b c p q r = rw (le-ltb a b (omega arith)) (round_nought f false (a - b) c (omega arith) r)

-- a zero's sign does not matter beside a number that is none
sum-nought : (f : Format) (s : Bool) (a : ℕ) (t : Bool) (b c : ℕ) → 0 < a → b ≡ 0 → sum f s a t b c ≡ round f s a c
unfolding sum
sum-nought f true a true b c p q = let e : a + b ≡ a = omega arith in rw e
sum-nought f false a false b c p q = let e : a + b ≡ a = omega arith in rw e
sum-nought f true a false b c p q = let e : a - b ≡ a = omega arith in rw (le-ltb a b (omega arith), lt-ltb b a (omega arith), e)
sum-nought f false a true b c p q = let e : a - b ≡ a = omega arith in rw (le-ltb a b (omega arith), e)

-- so of two zeros of the format
pub add_noughts : (f : Format) (s : Bool) (d : ℤ) (t : Bool) (e : ℤ) → add f (fin s 0 d) (fin t 0 e) ≡ fin (s && t) 0 (pos 0)
unfolding add
add_noughts f s d t e = sum_noughts f s _ t _ _ (omega arith) (omega arith) (mul-pos (down_pos d) (down_pos e))

-- and of a zero behind a number that is none
pub add_nought : (f : Format) (s : Bool) (m : ℕ) (d : ℤ) (t : Bool) (e : ℤ) → add f (fin s (suc m) d) (fin t 0 e) ≡ round f s (suc m * up d) (down d)
unfolding add
add_nought f s m d t e =
    let a = suc m * up d in
    sum-nought f s (a * down e) t _ (down d * down e) (mul-pos (mul-pos (omega arith) (up_pos d)) (down_pos e)) (omega arith)
    ∙ round_same f s (a * down e) (down d * down e) a (down d) (mul-pos (down_pos d) (down_pos e)) (down_pos d) (omega arith)

-- ---- operations on numbers that are alike give numbers that are alike, infinities and NaN included

-- negation
pub alike_neg : {x y : Float} → Alike x y → Alike (neg x) (neg y)
unfolding neg
alike_neg same = same
alike_neg zeros = zeros

nought-times : (f : Format) (s t : Bool) (d : ℤ) (n : ℕ) (c : ℤ) → mul f (fin s 0 d) (fin t n c) ≡ fin (unlike s t) 0 (pos 0)
unfolding mul
nought-times f s t d n c = round_nought f (unlike s t) _ _ (omega arith) (mul-pos (down_pos d) (down_pos c))

first-factor : (f : Format) {x z : Float} (y : Float) → Alike x z → Alike (mul f x y) (mul f z y)
first-factor f y same = same
first-factor f nan zeros = unfold mul in same
first-factor f (inf u) zeros = unfold mul in same
first-factor f (fin u n c) (zeros {s} {t} {d} {e}) = rw (nought-times f s u d n c, nought-times f t u e n c) zeros

-- a product
pub alike_mul : (f : Format) {x y z t : Float} → Alike x z → Alike y t → Alike (mul f x y) (mul f z t)
alike_mul f {x} {y} {z} {t} p q = alike_trans (first-factor f y p) (rw (product_commutes f z y, product_commutes f z t) (first-factor f z q))

second_term : (f : Format) (x : Float) {y z : Float} → Alike y z → Alike (add f x y) (add f x z)
second_term f x same = same
second_term f nan zeros = unfold add in same
second_term f (inf u) zeros = unfold add in same
second_term f (fin u zero c) (zeros {s} {t} {d} {e}) = rw (add_noughts f u c s d, add_noughts f u c t e) zeros
second_term f (fin u (suc n) c) (zeros {s} {t} {d} {e}) = rw (add_nought f u n c s d, add_nought f u n c t e) same

-- a sum
pub alike_add : (f : Format) {x y z t : Float} → Alike x z → Alike y t → Alike (add f x y) (add f z t)
alike_add f {x} {y} {z} {t} p q = alike_trans (second_term f x q) (rw (sum_commutes f x t, sum_commutes f z t) (second_term f t p))

-- numbers of unlike signs: one less itself is +0 either way
unlike_neg : (f : Format) (s t : Bool) (a b c : ℕ) → 0 < c
    → Alike (neg (cond (ltb a b) (round f t (b - a) c) (round f (s && ltb b a) (a - b) c)))
    (cond (ltb a b) (round f (not t) (b - a) c) (round f (not s && ltb b a) (a - b) c))
unlike_neg f s t a b c p =
    dite (dec_lt a b)
    (λ l. rw (lt-ltb a b l) (alike_is (round_neg f t (b - a) c)))
    (λ l.
    dite (dec_lt b a)
    (λ m. rw (le-ltb a b (omega arith), lt-ltb b a m, and-true s, and-true (not s)) (alike_is (round_neg f s (a - b) c)))
    (λ m.
    rw (
      le-ltb a b (omega arith),
      le-ltb b a (omega arith),
      and-false s,
      and-false (not s),
      round_neg f false (a - b) c,
      round_nought f true (a - b) c (omega arith) p,
      round_nought f false (a - b) c (omega arith) p,
    ) zeros))

sum_neg : (f : Format) (s : Bool) (a : ℕ) (t : Bool) (b c : ℕ) → 0 < c → Alike (neg (sum f s a t b c)) (sum f (not s) a (not t) b c)
unfolding sum
sum_neg f true a true b c p = alike_is (round_neg f true (a + b) c)
sum_neg f false a false b c p = alike_is (round_neg f false (a + b) c)
sum_neg f true a false b c p = unlike_neg f true false a b c p
sum_neg f false a true b c p = unlike_neg f false true a b c p

-- a negated sum is the sum of the negated, but for the sign of a zero
pub add_negated : (f : Format) (x y : Float) → Alike (neg (add f x y)) (add f (neg x) (neg y))
unfolding add neg
add_negated f nan y = same
add_negated f (inf s) nan = same
add_negated f (inf true) (inf true) = same
add_negated f (inf true) (inf false) = same
add_negated f (inf false) (inf true) = same
add_negated f (inf false) (inf false) = same
add_negated f (inf s) (fin t n d) = same
add_negated f (fin s m e) nan = same
add_negated f (fin s m e) (inf t) = same
add_negated f (fin s m e) (fin t n d) = sum_neg f s _ t _ _ (mul-pos (down_pos e) (down_pos d))
