-- Numbers that are not below zero, by the comparisons of a program.
use Rattle.std.specs.Prelude.{◌≡◌, refl, Bool, true, false, ◌&&◌, ◌||◌, ℕ, zero, suc, ◌*◌, ◌≤◌, ◌<◌, ℤ, pos, T, ltb, eqb, Float}
use Rattle.std.proofs.Common.{sym, ap, arith, zero-mul, ltb→lt, eqb→eq}
use Rattle.std.specs.Float.{nan, inf, fin, binary64}
use Rattle.std.specs.Float.Ieee.{up, down, lt, le, eq, of_bits}
use Rattle.std.specs.Float.Ieee.Fits.{down_pos, and_i, and_l, and_r, eq→eqb}
use Rattle.std.specs.Float.Ieee.Scale.{finite}
use Rattle.rounding.specs.Under.{nought, unit}
use Rattle.rounding.specs.Laws.Sign.{not_minus}
use Rattle.rounding.proofs.Laws.Under.{under-nought, under_le}
use Rattle.rounding.specs.Laws.Under.{Within}

-- ---- from the tests of a program to sizes
at-most : (a b : ℕ) (c e : Bool) → (T c → a ≡ b) → T (ltb a b || (c && e)) → a ≤ b
at-most a b c e q = go (ltb a b) (ltb→lt a b) c q
  where
    go : (x : Bool) → (T x → a < b) → (y : Bool) → (T y → a ≡ b) → T (x || (y && e)) → a ≤ b
    go true l y r h = let z = l tt in omega arith
    go false l true r h = let z = r tt in omega arith
    go false l false r h = absurd h

-- -0.0 is the one number with a minus sign that is not below zero
pub minus_zero : (m : ℕ) (e : ℤ) → T (le nought (fin true m e)) → m * up e ≡ 0
unfolding le lt eq
minus_zero m e h = let z = eqb→eq (0 * up (pos 0) * down e) (m * up e * 1) (and_l (eqb (0 * up (pos 0) * down e) (m * up e * 1)) _ h) in omega (arith, zero-mul (down e))

-- a number that is not below zero, and no larger than a finite one
pub ordered-within : (x y : Float) → T (le nought x) → T (le x y) → T (finite y) → Within x y
unfolding le lt eq
ordered-within nan y h l k = absurd h
ordered-within (inf true) y h l k = absurd h
ordered-within (inf false) nan h l k = absurd l
ordered-within (inf false) (inf t) h l k = absurd k
ordered-within (inf false) (fin t n d) h l k = absurd l
ordered-within (fin s m e) nan h l k = absurd k
ordered-within (fin s m e) (inf t) h l k = absurd k
ordered-within (fin false m e) (fin false n d) h l k = record {
  is_finite = tt;
  at_most =
      let a = m * up e * down d in
      let b = n * up d * down e in
      at-most a b (eqb a b) true (eqb→eq a b) l;
}
ordered-within (fin false m e) (fin true n d) h l k = record {
  is_finite = tt;
  at_most =
      let a = m * up e * down d in
      let z = eqb→eq a 0 (and_r (eqb a (n * up d * down e)) (eqb a 0) l) in
      omega arith;
}
ordered-within (fin true m e) (fin t n d) h l k = record {
  is_finite = tt;
  at_most = let z = ap (λ (x : ℕ). x * down d) (minus_zero m e h) in omega (arith, zero-mul (down d));
}

-- ---- numbers that are not below zero
pub at-least-nought : (x : Float) → T (finite x) → T (not_minus x) → T (le nought x)
at-least-nought x k p = under_le (under-nought x p) k

minus_zero_least : (n : ℕ) (d : ℤ) → n * up d ≡ 0 → T (le nought (fin true n d))
unfolding le lt eq
minus_zero_least n d z =
    let a : 0 * up (pos 0) * down d ≡ n * up d * 1 = omega (arith, zero-mul (down d)) in
    let b : 0 * up (pos 0) * down d ≡ 0 = omega (arith, zero-mul (down d)) in
    and_i (eqb (0 * up (pos 0) * down d) (n * up d * 1)) (eqb (0 * up (pos 0) * down d) 0) (eq→eqb a) (eq→eqb b)

cancelled : (a b : ℕ) → 0 < b → a * b ≡ 0 → a ≡ 0
cancelled zero b h z = refl
cancelled (suc a) b h z = absurd (omega arith)

-- what is not below such a number
pub ascending : (x y : Float) → T (le nought x) → T (le x y) → T (le nought y)
unfolding le lt eq
ascending nan y h l = absurd h
ascending (inf true) y h l = absurd h
ascending (inf false) nan h l = absurd l
ascending (inf false) (inf true) h l = absurd l
ascending (inf false) (inf false) h l = tt
ascending (inf false) (fin t n d) h l = absurd l
ascending (fin s m e) nan h l = absurd l
ascending (fin s m e) (inf true) h l = absurd l
ascending (fin s m e) (inf false) h l = tt
ascending (fin s m e) (fin false n d) h l = at-least-nought (fin false n d) tt tt
ascending (fin false m e) (fin true n d) h l =
    let a = m * up e * down d in
    let b = n * up d * down e in
    let p = eqb→eq a b (and_l (eqb a b) (eqb a 0) l) in
    let q = eqb→eq a 0 (and_r (eqb a b) (eqb a 0) l) in
    minus_zero_least n d (cancelled (n * up d) (down e) (down_pos e) (omega arith))
ascending (fin true m e) (fin true n d) h l =
    let a = m * up e * down d in
    let b = n * up d * down e in
    let p = ap (λ (x : ℕ). x * down d) (minus_zero m e h) in
    let q = at-most b a (eqb a b) true (λ (t : T (eqb a b)). sym (eqb→eq a b t)) l in
    minus_zero_least n d (cancelled (n * up d) (down e) (down_pos e) (omega (arith, zero-mul (down d))))

-- ---- +0.0 and 1.0 by their bits
pub zero_is : of_bits binary64 0 ≡ nought
unfolding of_bits
zero_is = refl

pub one-is : of_bits binary64 0x3ff0_0000_0000_0000 ≡ unit
unfolding of_bits
one-is = refl
