-- Sums by their bits.
use Rattle.std.specs.Prelude.{◌≡◌, refl, Bool, true, false, not, ◌||◌, ℕ, ◌<◌, ◌^◌, T, eqb}
use Rattle.std.proofs.Common.{sym, ap, subst, ◌∙◌, arith}
use borrow.Author.Tests.{eq-eqb, ne_eqb}
use Rattle.std.specs.Float.{nan}
use Rattle.std.specs.Float.Ieee.{is_nan, binary64, of_bits, to_bits}
use Rattle.std.specs.Float.Ieee.Bits.{to_bits-of_bits}
use Rattle.estimate.specs.Estimates.{number, is_in_order}
use Rattle.little_endian.proofs.Laws.Nans.{is-nan}
use Rattle.run_record.specs.Reading.{is_minus_zero, bad_sums}

-- ---- -0.0 is one pattern

nan_plain : is_minus_zero nan ≡ false
unfolding to_bits
nan_plain = refl

minus-is-number : is_nan (of_bits binary64 0x8000_0000_0000_0000) ≡ false
unfolding is_nan of_bits
minus-is-number = refl

pub minus_zero_is : (n : ℕ) → n < 2 ^ 64 → is_minus_zero (of_bits binary64 n) ≡ eqb n 0x8000_0000_0000_0000
minus_zero_is n h = go (is_nan (of_bits binary64 n)) refl
  where
    go : (b : Bool) → is_nan (of_bits binary64 n) ≡ b → is_minus_zero (of_bits binary64 n) ≡ eqb n 0x8000_0000_0000_0000
    go false e = ap (λ (k : ℕ). eqb k 0x8000_0000_0000_0000) (to_bits-of_bits binary64 n (omega arith) (subst (λ (b : Bool). T (not b)) (sym e) tt))
    go true e =
        let z : nan ≡ of_bits binary64 n = is-nan (of_bits binary64 n) (subst T (sym e) tt) in
        ap is_minus_zero (sym z) ∙ nan_plain ∙ sym (ne_eqb n 0x8000_0000_0000_0000 (λ q. let f : false ≡ true = sym minus-is-number ∙ ap (λ (k : ℕ). is_nan (of_bits binary64 k)) (sym q) ∙ e in absurd (subst T (sym f) tt)))

or-true : (a : Bool) → true ≡ (a || true)
or-true true = refl
or-true false = refl

or_none : (a : Bool) → a ≡ (a || false || false)
or_none true = refl
or_none false = refl

or_first : (a b : Bool) → true ≡ (a || true || b)
or_first true b = refl
or_first false b = refl

module _ (samples squares fourths : ℕ) (p : squares < 2 ^ 64) (q : fourths < 2 ^ 64) where
  pub minus-squares : squares ≡ 0x8000_0000_0000_0000 → true ≡ bad_sums samples (of_bits binary64 squares) (of_bits binary64 fourths)
  unfolding bad_sums
  minus-squares e = rw (minus_zero_is squares p, eq-eqb squares 0x8000_0000_0000_0000 e) (or_first (not (is_in_order (number samples) (of_bits binary64 squares) (of_bits binary64 fourths))) (is_minus_zero (of_bits binary64 fourths)))

  pub minus-fourths : fourths ≡ 0x8000_0000_0000_0000 → true ≡ bad_sums samples (of_bits binary64 squares) (of_bits binary64 fourths)
  unfolding bad_sums
  minus-fourths e = rw (minus_zero_is fourths q, eq-eqb fourths 0x8000_0000_0000_0000 e) (or-true (not (is_in_order (number samples) (of_bits binary64 squares) (of_bits binary64 fourths)) || is_minus_zero (of_bits binary64 squares)))

  pub ordered_or_bad : (squares ≡ 0x8000_0000_0000_0000 → ⊥) → (fourths ≡ 0x8000_0000_0000_0000 → ⊥)
      → not (is_in_order (number samples) (of_bits binary64 squares) (of_bits binary64 fourths)) ≡ bad_sums samples (of_bits binary64 squares) (of_bits binary64 fourths)
  unfolding bad_sums
  ordered_or_bad m n =
      rw (minus_zero_is squares p, minus_zero_is fourths q, ne_eqb squares 0x8000_0000_0000_0000 m, ne_eqb fourths 0x8000_0000_0000_0000 n) (or_none (not (is_in_order (number samples) (of_bits binary64 squares) (of_bits binary64 fourths))))
