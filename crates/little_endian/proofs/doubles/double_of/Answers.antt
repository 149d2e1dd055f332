-- Without its sign the pattern is at most an infinity's, so it is no NaN's.
use Rattle.std.proofs.Common.{◌≡◌, ℕ, ◌%◌, ◌<◌, ◌≤◌, Bool, not, T, sym, refl, ◌∙◌, subst, le-ltb, lt-ltb}
use lib.Ieee.{nan, nan_bits, binary64, of_bits, div}
use lib.Ieee.Bits.{nan_bits_above, nan_bits_is}
use Rattle.little_endian.proofs.Laws.Nans.{is-nan}
use Rattle.little_endian.proofs.doubles.double_of.Goals as goal

no_nan : (n : ℕ) → n % 0x8000_0000_0000_0000 ≤ 0x7ff0_0000_0000_0000 → T (not (nan_bits binary64 n))
no_nan n h = subst (λ (b : Bool). T (not b)) (sym (nan_bits_above binary64 n ∙ le-ltb _ _ h)) tt

-- above it, it is one
a_nan : (n : ℕ) → 0x7ff0_0000_0000_0000 < n % 0x8000_0000_0000_0000 → nan ≡ of_bits binary64 n
a_nan n h = is-nan (of_bits binary64 n) (subst T (sym (sym (nan_bits_is binary64 n) ∙ nan_bits_above binary64 n ∙ lt-ltb _ _ h)) tt)

-- 0.0 / 0.0
quotient_nan : div binary64 (of_bits binary64 0) (of_bits binary64 0) ≡ nan
unfolding div of_bits
quotient_nan = refl

pub float_from_bits-result : goal.float_from_bits-result
float_from_bits-result c = no_nan c.args.bits c.if-bits-le-INFINITY.true

pub returns : goal.returns
returns c = quotient_nan ∙ a_nan c.args.bits c.if-bits-le-INFINITY.false
