-- A rounded sum does not ask which number comes first, and neither does a product.
use Rattle.std.specs.Prelude.{◌≡◌, refl, Bool, true, false, cond, ◌&&◌, ℕ, ◌*◌, ◌-◌, ltb, eqb, Float}
use Rattle.std.proofs.Common.{ap, ◌∙◌, add_comm, mul_comm, arith, lt-ltb, le-ltb}
use Rattle.std.proofs.Math.Logic.{dite}
use Rattle.std.proofs.Math.Decide.{dec_lt}
use Rattle.std.specs.Float.{nan, inf, fin, Format}
use Rattle.std.specs.Float.Ieee.{unlike, up, down, round, add, sum, mul}

pub and-true : (s : Bool) → (s && true) ≡ s
and-true true = refl
and-true false = refl

pub and-false : (s : Bool) → (s && false) ≡ false
and-false true = refl
and-false false = refl

-- numbers of unlike signs
unlike_comm : (f : Format) (s t : Bool) (a b c : ℕ)
    → cond (ltb a b) (round f t (b - a) c) (round f (s && ltb b a) (a - b) c)
    ≡ cond (ltb b a) (round f s (a - b) c) (round f (t && ltb a b) (b - a) c)
unlike_comm f s t a b c =
    dite (dec_lt a b)
    (λ l. rw (lt-ltb a b l, le-ltb b a (omega arith), and-true t))
    (λ l.
    dite (dec_lt b a)
    (λ m. rw (lt-ltb b a m, le-ltb a b (omega arith), and-true s))
    (λ m. let e : a ≡ b = omega arith in rw (le-ltb a b (omega arith), le-ltb b a (omega arith), and-false s, and-false t, e)))

sum_comm : (f : Format) (s : Bool) (a : ℕ) (t : Bool) (b c : ℕ) → sum f s a t b c ≡ sum f t b s a c
unfolding sum
sum_comm f true a true b c = rw (add_comm a b)
sum_comm f false a false b c = rw (add_comm a b)
sum_comm f true a false b c = unlike_comm f true false a b c
sum_comm f false a true b c = unlike_comm f false true a b c

pub sum_commutes : (f : Format) (x y : Float) → add f x y ≡ add f y x
unfolding add
sum_commutes f nan nan = refl
sum_commutes f nan (inf t) = refl
sum_commutes f nan (fin t n d) = refl
sum_commutes f (inf s) nan = refl
sum_commutes f (inf true) (inf true) = refl
sum_commutes f (inf true) (inf false) = refl
sum_commutes f (inf false) (inf true) = refl
sum_commutes f (inf false) (inf false) = refl
sum_commutes f (inf s) (fin t n d) = refl
sum_commutes f (fin s m e) nan = refl
sum_commutes f (fin s m e) (inf t) = refl
sum_commutes f (fin s m e) (fin t n d) = sum_comm f s _ t _ _ ∙ ap (sum f t _ s _) (mul_comm (down e) (down d))

unlike_sym : (s t : Bool) → unlike s t ≡ unlike t s
unlike_sym true true = refl
unlike_sym true false = refl
unlike_sym false true = refl
unlike_sym false false = refl

pub product_commutes : (f : Format) (x y : Float) → mul f x y ≡ mul f y x
unfolding mul
product_commutes f nan nan = refl
product_commutes f nan (inf t) = refl
product_commutes f nan (fin t n d) = refl
product_commutes f (inf s) nan = refl
product_commutes f (inf s) (inf t) = ap inf (unlike_sym s t)
product_commutes f (inf s) (fin t n d) = ap (λ u. cond (eqb n 0) nan (inf u)) (unlike_sym s t)
product_commutes f (fin s m e) nan = refl
product_commutes f (fin s m e) (inf t) = ap (λ u. cond (eqb m 0) nan (inf u)) (unlike_sym s t)
product_commutes f (fin s m e) (fin t n d) = rw (unlike_sym s t, mul_comm (m * up e) (n * up d), mul_comm (down e) (down d))
