-- Laws of what specs/Sign defines.
use Rattle.std.specs.Prelude.{◌≡◌, ℕ, zero, suc, ◌+◌, ◌-◌, ◌*◌, ◌^◌, ◌≤◌, ◌<◌, Bool, true, false, not, ◌&&◌, cond, ℤ, pos, T, ltb, eqb, Float}
use Rattle.std.proofs.Math.Path.{refl}
use Rattle.std.proofs.Common.{ap, ◌∙◌, subst, le_refl, lt_irrefl, zero-mul, arith, eqb→eq}
use Rattle.std.specs.Bool.{beq}
use Rattle.std.specs.Float.{nan, inf, fin, Format}
use Rattle.std.specs.Float.Ieee.{prec, low, emax, up, down, unlike, odd, units, round, neg, sum, add, sub, mul, div}
use Rattle.std.specs.Float.Ieee.Scale.{finite}
use Rattle.std.specs.Float.Ieee.Positive.{num, den}
use Rattle.rounding.specs.Sign.{abs}
use Rattle.rounding.specs.Laws.Sign.{not_minus}

pub abs-not_minus : (x : Float) → T (not_minus (abs x))
abs-not_minus nan = tt
abs-not_minus (inf s) = tt
abs-not_minus (fin s m e) = tt

pub abs-of-not_minus : (x : Float) → T (not_minus x) → abs x ≡ x
abs-of-not_minus nan p = refl
abs-of-not_minus (inf true) p = absurd p
abs-of-not_minus (inf false) p = refl
abs-of-not_minus (fin true m e) p = absurd p
abs-of-not_minus (fin false m e) p = refl

-- ---- the size of a rounded fraction does not depend on its sign
odd-abs : (d : ℕ) (s : Bool) (q k l : ℕ) → abs (odd d s q k l) ≡ odd d false q k l
unfolding odd
odd-abs d s zero k l = refl
odd-abs d s (suc q) k l = refl

cond_abs : (b : Bool) (x y : Float) → abs (cond b x y) ≡ cond b (abs x) (abs y)
cond_abs true x y = refl
cond_abs false x y = refl

units-abs : (f : Format) (s : Bool) (q k : ℕ) → abs (units f s q k) ≡ units f false q k
unfolding units
units-abs f s q k =
    let b = ltb (q * 2 ^ k) (2 ^ (low f + suc (emax f))) in
    cond_abs b (odd (suc (prec f)) s q k (low f)) (inf s) ∙ ap (λ (z : Float). cond b z (inf false)) (odd-abs (suc (prec f)) s q k (low f))

round_abs : (f : Format) (s : Bool) (a c : ℕ) → abs (round f s a c) ≡ round f false a c
unfolding round
round_abs f s a c = units-abs f s _ _

pub round_not_minus : (f : Format) (a c : ℕ) → T (not_minus (round f false a c))
round_not_minus f a c = subst (λ (z : Float). T (not_minus z)) (round_abs f false a c) (abs-not_minus (round f false a c))

-- ---- a finite result has finite operands, whatever the signs
pub neg_finite : (x : Float) → T (finite (neg x)) → T (finite x)
unfolding neg
neg_finite nan h = h
neg_finite (inf s) h = h
neg_finite (fin s m e) h = h

pub add_finite : (f : Format) (x y : Float) → T (finite (add f x y)) → T (finite x) × T (finite y)
unfolding add
add_finite f nan y h = absurd h
add_finite f (inf s) nan h = absurd h
add_finite f (inf true) (inf true) h = absurd h
add_finite f (inf true) (inf false) h = absurd h
add_finite f (inf false) (inf true) h = absurd h
add_finite f (inf false) (inf false) h = absurd h
add_finite f (inf s) (fin t n d) h = absurd h
add_finite f (fin s m e) nan h = absurd h
add_finite f (fin s m e) (inf t) h = absurd h
add_finite f (fin s m e) (fin t n d) h = (tt, tt)

pub sub_finite : (f : Format) (x y : Float) → T (finite (sub f x y)) → T (finite x) × T (finite y)
unfolding sub
sub_finite f x y h = let p = add_finite f x (neg y) h in (p.0, neg_finite y p.1)

not_finite : (b s : Bool) → T (finite (cond b nan (inf s))) → ⊥
not_finite true s h = h
not_finite false s h = h

pub mul_finite : (f : Format) (x y : Float) → T (finite (mul f x y)) → T (finite x) × T (finite y)
unfolding mul
mul_finite f nan y h = absurd h
mul_finite f (inf s) nan h = absurd h
mul_finite f (inf s) (inf t) h = absurd h
mul_finite f (inf s) (fin t n d) h = absurd (not_finite (eqb n 0) (unlike s t) h)
mul_finite f (fin s m e) nan h = absurd h
mul_finite f (fin s m e) (inf t) h = absurd (not_finite (eqb m 0) (unlike s t) h)
mul_finite f (fin s m e) (fin t n d) h = (tt, tt)

-- of the dividend alone: an infinite divisor gives a zero
pub div_finite : (f : Format) (x y : Float) → T (finite (div f x y)) → T (finite x)
unfolding div
div_finite f nan y h = absurd h
div_finite f (inf s) nan h = absurd h
div_finite f (inf s) (inf t) h = absurd h
div_finite f (inf s) (fin t n d) h = absurd h
div_finite f (fin s m e) y h = tt

-- ---- without a minus sign: results of operands that have none, and squares
pub cond_not_minus : (b : Bool) (x y : Float) → T (not_minus x) → T (not_minus y) → T (not_minus (cond b x y))
cond_not_minus true x y p q = p
cond_not_minus false x y p q = q

pub add_not_minus : (f : Format) (x y : Float) → T (not_minus x) → T (not_minus y) → T (not_minus (add f x y))
unfolding add
add_not_minus f nan y p q = tt
add_not_minus f (inf s) nan p q = tt
add_not_minus f (inf s) (inf t) p q = cond_not_minus (beq s t) (inf s) nan p tt
add_not_minus f (inf s) (fin t n d) p q = p
add_not_minus f (fin s m e) nan p q = tt
add_not_minus f (fin s m e) (inf t) p q = q
add_not_minus f (fin true m e) (fin t n d) p q = absurd p
add_not_minus f (fin false m e) (fin true n d) p q = absurd q
add_not_minus f (fin false m e) (fin false n d) p q = round_not_minus f (m * up e * down d + n * up d * down e) (down e * down d)

-- the sign of a product or a quotient
unlike_not_minus : (z : Bool → Float) (s t : Bool) → T (not s) → T (not t) → T (not_minus (z false)) → T (not_minus (z (unlike s t)))
unlike_not_minus z true t p q h = absurd p
unlike_not_minus z false true p q h = absurd q
unlike_not_minus z false false p q h = h

pub mul_not_minus : (f : Format) (x y : Float) → T (not_minus x) → T (not_minus y) → T (not_minus (mul f x y))
unfolding mul
mul_not_minus f nan y p q = tt
mul_not_minus f (inf s) nan p q = tt
mul_not_minus f (inf s) (inf t) p q = unlike_not_minus inf s t p q tt
mul_not_minus f (inf s) (fin t n d) p q =
    unlike_not_minus (λ b. cond (eqb n 0) nan (inf b)) s t p q (cond_not_minus (eqb n 0) nan (inf false) tt tt)
mul_not_minus f (fin s m e) nan p q = tt
mul_not_minus f (fin s m e) (inf t) p q =
    unlike_not_minus (λ b. cond (eqb m 0) nan (inf b)) s t p q (cond_not_minus (eqb m 0) nan (inf false) tt tt)
mul_not_minus f (fin s m e) (fin t n d) p q =
    let a = m * up e * (n * up d) in
    let c = down e * down d in
    unlike_not_minus (λ b. round f b a c) s t p q (round_not_minus f a c)

pub div_not_minus : (f : Format) (x y : Float) → T (not_minus x) → T (not_minus y) → T (not_minus (div f x y))
unfolding div
div_not_minus f nan y p q = tt
div_not_minus f (inf s) nan p q = tt
div_not_minus f (inf s) (inf t) p q = tt
div_not_minus f (inf s) (fin t n d) p q = unlike_not_minus inf s t p q tt
div_not_minus f (fin s m e) nan p q = tt
div_not_minus f (fin s m e) (inf t) p q = unlike_not_minus (λ b. fin b 0 (pos 0)) s t p q tt
div_not_minus f (fin s m e) (fin t n d) p q =
    let a = m * up e * down d in
    let c = n * up d * down e in
    unlike_not_minus (λ b. cond (eqb n 0) (cond (eqb m 0) nan (inf b)) (round f b a c)) s t p q
    (cond_not_minus (eqb n 0) (cond (eqb m 0) nan (inf false)) (round f false a c)
    (cond_not_minus (eqb m 0) nan (inf false) tt tt) (round_not_minus f a c))

pub square-not_minus : (f : Format) (x : Float) → T (not_minus (mul f x x))
unfolding mul
square-not_minus f nan = tt
square-not_minus f (inf true) = tt
square-not_minus f (inf false) = tt
square-not_minus f (fin true m e) = round_not_minus f (m * up e * (m * up e)) (down e * down e)
square-not_minus f (fin false m e) = round_not_minus f (m * up e * (m * up e)) (down e * down e)

-- ---- the size of a result, as a rounded fraction
pub mul_abs : (f : Format) (x y : Float) → T (finite x) → T (finite y) → abs (mul f x y) ≡ round f false (num x * num y) (den x * den y)
unfolding mul
mul_abs f nan y p q = absurd p
mul_abs f (inf s) y p q = absurd p
mul_abs f (fin s m e) nan p q = absurd q
mul_abs f (fin s m e) (inf t) p q = absurd q
mul_abs f (fin s m e) (fin t n d) p q = round_abs f (unlike s t) (m * up e * (n * up d)) (down e * down d)

dividing : (n : ℕ) (d : ℤ) (x y : Float) → 0 < n * up d → cond (eqb n 0) x y ≡ y
dividing n d x y h = go (eqb n 0) (eqb→eq n 0)
  where
    go : (b : Bool) → (T b → n ≡ 0) → cond b x y ≡ y
    go true e = absurd (lt_irrefl 0 (subst (λ (k : ℕ). 0 < k) (ap (λ (k : ℕ). k * up d) (e tt) ∙ zero-mul (up d)) h))
    go false e = refl

pub div_abs : (f : Format) (x y : Float) → T (finite x) → T (finite y) → 0 < num y
    → abs (div f x y) ≡ round f false (num x * den y) (num y * den x)
unfolding div
div_abs f nan y p q h = absurd p
div_abs f (inf s) y p q h = absurd p
div_abs f (fin s m e) nan p q h = absurd q
div_abs f (fin s m e) (inf t) p q h = absurd q
div_abs f (fin s m e) (fin t n d) p q h =
    let a = m * up e * down d in
    let c = n * up d * down e in
    ap abs (dividing n d (cond (eqb m 0) nan (inf (unlike s t))) (round f (unlike s t) a c) h) ∙ round_abs f (unlike s t) a c

-- z has the size of a rounded fraction of denominator c that is at most a / c
pub record Rounded (f : Format) (z : Float) (a c : ℕ) : Type 0 where
  pub top : ℕ
  pub most : top ≤ a
  pub is : abs z ≡ round f false top c

sum-abs : (f : Format) (s : Bool) (a : ℕ) (t : Bool) (b c : ℕ) → Rounded f (sum f s a t b c) (a + b) c
unfolding sum
sum-abs f s a t b c = go (beq s t) (ltb a b)
  where
    go : (u v : Bool) → Rounded f (cond u (round f s (a + b) c) (cond v (round f t (b - a) c) (round f (s && ltb b a) (a - b) c))) (a + b) c
    go true v = record { top = a + b; most = le_refl (a + b); is = round_abs f s (a + b) c }
    go false true = record { top = b - a; most = omega arith; is = round_abs f t (b - a) c }
    go false false = record { top = a - b; most = omega arith; is = round_abs f (s && ltb b a) (a - b) c }

-- of a sum of any signs: no more than the sizes' sum
pub add_abs : (f : Format) (x y : Float) → T (finite x) → T (finite y)
    → Rounded f (add f x y) (num x * den y + num y * den x) (den x * den y)
unfolding add
add_abs f nan y p q = absurd p
add_abs f (inf s) y p q = absurd p
add_abs f (fin s m e) nan p q = absurd q
add_abs f (fin s m e) (inf t) p q = absurd q
add_abs f (fin s m e) (fin t n d) p q = sum-abs f s (m * up e * down d) t (n * up d * down e) (down e * down d)

-- where neither has a minus sign: the sum itself
pub add_is : (f : Format) (x y : Float) → T (finite x) → T (finite y) → T (not_minus x) → T (not_minus y)
    → add f x y ≡ round f false (num x * den y + num y * den x) (den x * den y)
unfolding add
add_is f nan y p q u v = absurd p
add_is f (inf s) y p q u v = absurd p
add_is f (fin s m e) nan p q u v = absurd q
add_is f (fin s m e) (inf t) p q u v = absurd q
add_is f (fin true m e) (fin t n d) p q u v = absurd u
add_is f (fin false m e) (fin true n d) p q u v = absurd v
add_is f (fin false m e) (fin false n d) p q u v = unfold sum in refl
