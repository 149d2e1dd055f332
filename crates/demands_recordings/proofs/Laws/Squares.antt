-- Sums of squares, or of fourth powers, from +0.0 carry no minus.
use Rattle.std.specs.Prelude.{◌≡◌, T, Float}
use Rattle.std.proofs.Common.{ap, ◌∙◌, add-zero, arith}
use Prim.Native.Nat.{ℕ, zero, suc, ◌+◌, ◌-◌}
use Rattle.std.specs.Float.Ieee.{binary64, mul, fits}
use Rattle.std.specs.Float.Ieee.Fits.{add-fits}
use Rattle.rounding.proofs.Laws.Sign.{add_not_minus, square-not_minus}
use Rattle.rounding.specs.Laws.Sign.{not_minus}
use Rattle.transfer_matrix.specs.Arithmetic.{sum}
use Rattle.transfer_matrix.specs.Rounded.{ieee}
use Rattle.transfer_matrix.specs.Totals.{square, fourth, chunked, sampled}
use Rattle.demands_recordings.proofs.Laws.Plus.{zero_plus}

-- a power that is never below +0.0
pub record Even (power : Float → Float) : Type 0 where
  pub plain : (x : Float) → T (not_minus (power x))

pub even_square : Even (square ieee)
even_square = record { plain = λ x. square-not_minus binary64 x }

pub even_fourth : Even (fourth ieee)
even_fourth = record { plain = λ x. square-not_minus binary64 (mul binary64 x x) }

module _ (power : Float → Float) (even : Even power) (c : ℕ → Float) where
  pub sum_plain : (n : ℕ) → T (not_minus (sum ieee n (λ j. power (c j))))
  unfolding sum
  sum_plain zero = tt
  sum_plain (suc n) = add_not_minus binary64 (sum ieee n (λ j. power (c j))) (power (c n)) (sum_plain n) (even.plain (c n))

  pub sum_fits : (n : ℕ) → T (fits binary64 (sum ieee n (λ j. power (c j))))
  unfolding sum
  sum_fits zero = unfold fits in tt
  sum_fits (suc n) = add-fits binary64 (sum ieee n (λ j. power (c j))) (power (c n))

-- one chunk alone is its own sum
pub one_chunk : (power : Float → Float) → Even power → (i samples : ℕ) (c : ℕ → ℕ → Float)
    → sampled ieee power i (i + 1) samples c ≡ sum ieee samples (λ j. power (c i j))
unfolding sampled chunked sum
one_chunk power even i samples c =
    let one : i + 1 - i ≡ suc zero = omega arith in
    let z : i + 0 ≡ i = add-zero i in
    ap (λ (n : ℕ). sum ieee n (λ h. sum ieee samples (λ j. power (c (i + h) j)))) one
    ∙ ap (λ (h : ℕ). sum ieee 1 (λ _. sum ieee samples (λ j. power (c h j)))) z
    ∙ zero_plus (sum ieee samples (λ j. power (c i j))) (sum_fits power even (c i) samples) (sum_plain power even (c i) samples)
