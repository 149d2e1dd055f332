-- The tests that the code makes of any double: zero, above zero, neither; and above zero the fields of its pattern.
use mathlib.Core.Path.{◌≡◌, refl, sym, ap, ◌∙◌, subst}
use Prim.Native.Nat.{ℕ, zero, suc, ◌+◌, ◌*◌, ◌/◌, ◌%◌, ◌^◌, ◌<◌}
use native.Mathlib.Nat.{lt_irrefl, mul-one, zero-mul, mul-pos, zero-lt-suc}
use native.Mathlib.Omega.{arith}
use mathlib.Core.Bool.{Bool, true, false, not, ◌&&◌, ◌||◌, beq, cond, true≢false, or-true}
use lib.IntN.{ℤ}
use lib.Dec.{T, leb, eqb, eqb→eq}
use borrow.Author.Tests.{lt-ltb}
use lib.Ieee.{Float, nan, inf, fin, binary64, up, down, odd, div, lt, eq, fits, is_nan, of_fields, of_bits, to_bits}
use lib.Ieee.Fits.{up_pos, and_l}
use lib.Ieee.Bits.{of_bits-to_bits}
use Rattle.sqrt.specs.Sqrt.{sqrt}

-- the literal 0.0
abbrev pub +0·0 : Float
+0·0 = of_bits binary64 0

-- a finite number above zero compares as that
above : (m : ℕ) (e : ℤ) → 0 * 1 * down e < suc m * up e * 1
above m e = rw (zero-mul (down e), mul-one (suc m * up e)) (mul-pos (zero-lt-suc m) (up_pos e))

pub root_at_zero : (x : Float) → T (eq x +0·0) → x ≡ sqrt binary64 x
unfolding eq sqrt of_bits
root_at_zero nan h = absurd h
root_at_zero (inf s) h = absurd h
root_at_zero (fin s zero e) h = refl
root_at_zero (fin s (suc m) e) h =
    let a = suc m * up e * 1 in
    let b = 0 * 1 * down e in
    absurd (lt_irrefl b (subst (λ (z : ℕ). b < z) (eqb→eq a b (and_l (eqb a b) (beq s false || eqb a 0) h)) (above m e)))

pub root_of_neither : (x : Float) → eq x +0·0 ≡ false → lt +0·0 x ≡ false → div binary64 +0·0 +0·0 ≡ sqrt binary64 x
unfolding eq lt sqrt of_bits div
root_of_neither nan h g = refl
root_of_neither (inf true) h g = refl
root_of_neither (inf false) h g = absurd (true≢false g)
root_of_neither (fin s zero e) h g = absurd (true≢false (sym is_zero ∙ h))
  where
    is_zero : (eqb (0 * up e * 1) (0 * 1 * down e) && (beq s false || eqb (0 * up e * 1) 0)) ≡ true
    is_zero = rw (mul-one (0 * up e), zero-mul (up e), zero-mul (down e)) (or-true (beq s false))
root_of_neither (fin true (suc m) e) h g = refl
root_of_neither (fin false (suc m) e) h g = absurd (true≢false (sym (lt-ltb (0 * 1 * down e) (suc m * up e * 1) (above m e)) ∙ g))

pub above_no_nan : (x : Float) → T (lt +0·0 x) → T (not (is_nan x))
unfolding lt is_nan of_bits
above_no_nan nan h = absurd h
above_no_nan (inf s) h = tt
above_no_nan (fin s m e) h = tt

-- ---- above zero
not_above : (d q k l : ℕ) → T (lt +0·0 (odd d true q k l)) → ⊥
unfolding lt odd of_bits
not_above d zero k l h = h
not_above d (suc q) k l h = h

no_sign : (s : Bool) (x t : ℕ) → T (lt +0·0 (of_fields binary64 s x t)) → s ≡ false
unfolding of_fields
no_sign false x t h = refl
no_sign true zero t h = absurd (not_above 53 t 0 1074 h)
no_sign true (suc x) t h = absurd (go (eqb (suc x) 2047) (eqb t 0) h)
  where
    go : (a b : Bool) → T (lt +0·0 (cond a (cond b (inf true) nan) (odd 53 true (2 ^ 52 + t) x 1074))) → ⊥
    go true true g = unfold lt of_bits in g
    go true false g = unfold lt of_bits in g
    go false b g = not_above 53 (2 ^ 52 + t) x 1074 g

pub fields_of : (x : Float) → T (fits binary64 x) → T (lt +0·0 x)
    → let b = to_bits binary64 x in x ≡ of_fields binary64 false (b % 2 ^ 63 / 2 ^ 52) (b % 2 ^ 52)
unfolding of_bits
fields_of x h g =
    let b = to_bits binary64 x in
    let e : x ≡ of_fields binary64 (leb (2 ^ 63) b) (b % 2 ^ 63 / 2 ^ 52) (b % 2 ^ 52) = sym (of_bits-to_bits binary64 x h) in
    e ∙ ap (λ (s : Bool). of_fields binary64 s (b % 2 ^ 63 / 2 ^ 52) (b % 2 ^ 52))
    (no_sign (leb (2 ^ 63) b) (b % 2 ^ 63 / 2 ^ 52) (b % 2 ^ 52) (subst (λ (z : Float). T (lt +0·0 z)) e g))

module _ (x : Float) (n t : ℕ) (p : x ≡ of_fields binary64 false n t) (g : T (lt +0·0 x)) where
  -- the highest field is infinity's
  pub root-at-top : n ≡ 2047 → x ≡ sqrt binary64 x
  unfolding of_fields
  root-at-top e = go (eqb t 0) (p ∙ ap (λ (z : ℕ). of_fields binary64 false z t) e)
    where
      go : (b : Bool) → x ≡ cond b (inf false) nan → x ≡ sqrt binary64 x
      go true q = rw q (unfold sqrt in refl)
      go false q = absurd (unfold lt of_bits in subst (λ (z : Float). T (lt +0·0 z)) q g)

  -- not both fields are 0
  pub fields_above : 0 < n + t
  fields_above = go n t (subst (λ (z : Float). T (lt +0·0 z)) p g)
    where
      go : (n t : ℕ) → T (lt +0·0 (of_fields binary64 false n t)) → 0 < n + t
      go zero zero h = absurd (unfold lt of_fields of_bits in h)
      go zero (suc t) h = omega arith
      go (suc n) t h = omega arith
