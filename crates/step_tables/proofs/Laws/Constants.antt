-- The code's 0.0 and 1.0 are the definition's.
use Rattle.std.specs.Prelude.{◌≡◌, refl}
use Rattle.std.specs.Float.{binary64}
use Rattle.std.specs.Float.Ieee.{of_bits, of_fields, odd}
use Rattle.transfer_matrix.specs.Rounded.{ieee}

pub zero_is : of_bits binary64 0 ≡ ieee.𝟘
unfolding of_bits of_fields
zero_is = refl

pub one-is : of_bits binary64 4607182418800017408 ≡ ieee.𝟙
unfolding of_bits of_fields odd
one-is = refl
