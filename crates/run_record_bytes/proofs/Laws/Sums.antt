-- Sums of a row that 26 lets pass, and their bits.
use Rattle.std.specs.Prelude.{◌≡◌, refl, Bool, true, false, not, ◌||◌, ◌&&◌, ℕ, ◌^◌, ◌<◌, T, Float}
use Rattle.std.proofs.Common.{sym, subst, arith}
use Rattle.std.proofs.lemmas.Bool.{not-false}
use Rattle.std.specs.Float.{nan, inf, fin, binary64}
use Rattle.std.specs.Float.Ieee.{is_nan, le, lt, eq, of_bits, to_bits, fits}
use Rattle.std.specs.Float.Ieee.Bits.{to_bits-of_bits, of_bits-fits, to_bits-lt, of_bits-to_bits}
use Rattle.list_laws.proofs.Laws.Search.{or-false}
use Rattle.estimate.specs.Estimates.{number, is_in_order, +0·0}
use Rattle.run_record.specs.Reading.{is_minus_zero, bad_sums}
use Rattle.run_record_bytes.specs.Described.{Sums}

and-true : (a b : Bool) → (a && b) ≡ true → (a ≡ true) × (b ≡ true)
and-true true b h = (refl, h)
and-true false b h = absurd (subst T (sym h) tt)

-- nothing is at most a NaN
no_nan_above : (x y : Float) → le x y ≡ true → T (not (is_nan y))
unfolding le lt eq is_nan
no_nan_above nan nan h = absurd (subst T (sym h) tt)
no_nan_above (inf s) nan h = absurd (subst T (sym h) tt)
no_nan_above (fin s m e) nan h = absurd (subst T (sym h) tt)
no_nan_above x (inf t) h = tt
no_nan_above x (fin t n d) h = tt

module _ (samples : ℕ) (squares fourths : Float) where
  pub told : bad_sums samples squares fourths ≡ false
      → (is_in_order (number samples) squares fourths ≡ true) × (is_minus_zero squares ≡ false) × (is_minus_zero fourths ≡ false)
  unfolding bad_sums
  told e =
      let x = or-false (not (is_in_order (number samples) squares fourths) || is_minus_zero squares) (is_minus_zero fourths) e in
      let y = or-false (not (is_in_order (number samples) squares fourths)) (is_minus_zero squares) x.0 in
      (not-false _ y.0, y.1, x.1)

  pub in_order_parts : is_in_order (number samples) squares fourths ≡ true → (le +0·0 fourths ≡ true) × (le fourths squares ≡ true) × (le squares (number samples) ≡ true)
  in_order_parts e =
      let x = and-true (le +0·0 fourths && le fourths squares) (le squares (number samples)) e in
      let y = and-true (le +0·0 fourths) (le fourths squares) x.0 in
      (y.0, y.1, x.1)

  pub sums_good : Sums samples squares fourths → bad_sums samples squares fourths ≡ false
  unfolding bad_sums
  sums_good s = rw (s.ordered, s.plain_squares, s.plain_fourths)

module _ (samples x y : ℕ) (p : x < 2 ^ 64) (q : y < 2 ^ 64) (e : bad_sums samples (of_bits binary64 x) (of_bits binary64 y) ≡ false) where
  order : (le +0·0 (of_bits binary64 y) ≡ true) × (le (of_bits binary64 y) (of_bits binary64 x) ≡ true) × (le (of_bits binary64 x) (number samples) ≡ true)
  order = in_order_parts samples (of_bits binary64 x) (of_bits binary64 y) (told samples (of_bits binary64 x) (of_bits binary64 y) e).0

  -- the bits are those of the doubles
  pub squares-bits : to_bits binary64 (of_bits binary64 x) ≡ x
  squares-bits = to_bits-of_bits binary64 x (omega arith) (no_nan_above (of_bits binary64 y) (of_bits binary64 x) order.1)

  pub fourths-bits : to_bits binary64 (of_bits binary64 y) ≡ y
  fourths-bits = to_bits-of_bits binary64 y (omega arith) (no_nan_above +0·0 (of_bits binary64 y) order.0)

  pub sums-of : Sums samples (of_bits binary64 x) (of_bits binary64 y)
  sums-of =
      let t = told samples (of_bits binary64 x) (of_bits binary64 y) e in
      record { double-squares = of_bits-fits binary64 x; double-fourths = of_bits-fits binary64 y; ordered = t.0; plain_squares = t.1; plain_fourths = t.2 }

-- the bits of a double, and the double of them
pub bits_fit : (x : Float) → T (fits binary64 x) → to_bits binary64 x < 2 ^ 64
bits_fit x f = let h = to_bits-lt binary64 x f in omega arith

pub same-double : (x : Float) → T (fits binary64 x) → of_bits binary64 (to_bits binary64 x) ≡ x
same-double x f = of_bits-to_bits binary64 x f
