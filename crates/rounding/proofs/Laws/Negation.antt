-- Rounding does not ask for the sign: it goes through a product, and through the sum that a difference is.
use Rattle.std.specs.Prelude.{◌≡◌, refl, Bool, true, false, cond, not, ℕ, zero, suc, ◌+◌, ◌*◌, ◌^◌, eqb, ltb, Float}
use Rattle.std.proofs.Common.{ap, ◌∙◌}
use Rattle.std.specs.Float.{nan, inf, fin, Format}
use Rattle.std.specs.Float.Ieee.{prec, emax, low, up, down, unlike, odd, units, round, neg, add, sub, mul}
use Rattle.rounding.proofs.Laws.Commute.{product_commutes}

not_not : (s : Bool) → not (not s) ≡ s
not_not true = refl
not_not false = refl

-- negated twice
pub neg_neg : (x : Float) → neg (neg x) ≡ x
unfolding neg
neg_neg nan = refl
neg_neg (inf s) = ap inf (not_not s)
neg_neg (fin s m e) = ap (λ u. fin u m e) (not_not s)

neg_cond : (b : Bool) (x y : Float) → neg (cond b x y) ≡ cond b (neg x) (neg y)
neg_cond true x y = refl
neg_cond false x y = refl

odd_neg : (d : ℕ) (s : Bool) (q k l : ℕ) → neg (odd d s q k l) ≡ odd d (not s) q k l
unfolding neg odd
odd_neg d s zero k l = refl
odd_neg d s (suc q) k l = refl

units_neg : (f : Format) (s : Bool) (q k : ℕ) → neg (units f s q k) ≡ units f (not s) q k
unfolding neg units
units_neg f s q k =
    let b = ltb (q * 2 ^ k) (2 ^ (low f + suc (emax f))) in
    neg_cond b (odd (suc (prec f)) s q k (low f)) (inf s) ∙ ap (λ z. cond b z (inf (not s))) (odd_neg (suc (prec f)) s q k (low f))

-- a fraction of the other sign is rounded to the number of the other sign
pub round_neg : (f : Format) (s : Bool) (a c : ℕ) → neg (round f s a c) ≡ round f (not s) a c
unfolding round
round_neg f s a c = units_neg f s _ _

unlike_not : (s t : Bool) → not (unlike s t) ≡ unlike (not s) t
unlike_not true true = refl
unlike_not true false = refl
unlike_not false true = refl
unlike_not false false = refl

-- a product is negated with its first factor
pub neg_first : (f : Format) (x y : Float) → neg (mul f x y) ≡ mul f (neg x) y
unfolding neg mul
neg_first f nan y = refl
neg_first f (inf s) nan = refl
neg_first f (inf s) (inf t) = ap inf (unlike_not s t)
neg_first f (inf s) (fin t n d) = neg_cond (eqb n 0) nan (inf (unlike s t)) ∙ ap (λ u. cond (eqb n 0) nan (inf u)) (unlike_not s t)
neg_first f (fin s m e) nan = refl
neg_first f (fin s m e) (inf t) = neg_cond (eqb m 0) nan (inf (unlike s t)) ∙ ap (λ u. cond (eqb m 0) nan (inf u)) (unlike_not s t)
neg_first f (fin s m e) (fin t n d) = round_neg f (unlike s t) _ _ ∙ ap (λ u. round f u (m * up e * (n * up d)) (down e * down d)) (unlike_not s t)

-- and with its second
pub neg_second : (f : Format) (x y : Float) → neg (mul f x y) ≡ mul f x (neg y)
neg_second f x y = ap neg (product_commutes f x y) ∙ neg_first f y x ∙ product_commutes f (neg y) x

-- to add the negated number is to subtract it
pub add_neg : (f : Format) (x y : Float) → add f x (neg y) ≡ sub f x y
unfolding sub
add_neg f x y = refl

-- to subtract the negated number is to add it
pub sub_neg : (f : Format) (x y : Float) → sub f x (neg y) ≡ add f x y
unfolding sub
sub_neg f x y = ap (add f x) (neg_neg y)
