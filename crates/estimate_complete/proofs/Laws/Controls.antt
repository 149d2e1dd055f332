-- Computed facts that rule out wrong readings which no settled example reaches.
use Rattle.std.specs.Prelude.{◌≡◌, refl, false, suc, ◌^◌, Float}
use Rattle.std.specs.Float.{nan, inf, binary64}
use Rattle.std.specs.Float.Ieee.{of_bits, of_int, neg, le, lt, div, mul, sub}
use Rattle.list_laws.specs.Search.{some}
use Rattle.sqrt.specs.Sqrt.{sqrt}
use Rattle.std.specs.declared.result.Result.TheVariants.{Ok, Err}
use Rattle.refusals.specs.declared.Refusal.TheVariants.{Sums}
use Rattle.estimate.specs.declared.answer.Estimate.TheVariants.{Complete}
use Rattle.estimate.specs.Estimates.{+0·0, +1·0, number}
use Rattle.estimate_complete.specs.Complete.{complete_of}

abbrev half : Float
half = of_bits binary64 0x3fe0_0000_0000_0000

-- sums of 1 and 1 of two configurations: the variance is 1/4, and the spread its root
of_two : complete_of 2 +1·0 +1·0 ≡ Ok (Complete (record { mean = half; error = +0·0; spread = half }))
unfolding complete_of some sqrt of_bits of_int le lt div mul sub
of_two = refl

-- one configuration is not too few
of_one : complete_of 1 +1·0 +1·0 ≡ Ok (Complete (record { mean = +1·0; error = +0·0; spread = +0·0 }))
unfolding complete_of some sqrt of_bits of_int le lt div mul sub
of_one = refl

-- a variance of -0.0, which is a tie; and one below zero, where the mean is 1/2
tie : complete_of 1 +0·0 (neg +0·0) ≡ Ok (Complete (record { mean = +0·0; error = +0·0; spread = +0·0 }))
unfolding complete_of some sqrt of_bits of_int le lt div mul sub neg
tie = refl

below_zero : complete_of 2 +1·0 (of_bits binary64 1) ≡ Ok (Complete (record { mean = half; error = +0·0; spread = +0·0 }))
unfolding complete_of some sqrt of_bits of_int le lt div mul sub
below_zero = refl

-- -0.0 stays in the mean
minus_zero : complete_of 2 (neg +0·0) (neg +0·0) ≡ Ok (Complete (record { mean = neg +0·0; error = +0·0; spread = +0·0 }))
unfolding complete_of some sqrt of_bits of_int le lt div mul sub neg
minus_zero = refl

-- the quotient is rounded before the difference: three smallest values over 2 are two, less one is one, whose root is 2 ^ -537. The difference
-- before the quotient would be zero
quotient-first : complete_of 2 (of_bits binary64 0x1e73_134d_0d9f_f744) (of_bits binary64 3)
    ≡ Ok (Complete (record { mean = of_bits binary64 0x1e63_134d_0d9f_f744; error = +0·0; spread = of_bits binary64 0x1e60_0000_0000_0000 }))
unfolding complete_of some sqrt of_bits of_int le lt div mul sub
quotient-first = refl

-- the counts 0 and 3, the largest, one more, and twice as many
counts : (complete_of 0 +0·0 +0·0 ≡ Err Sums) × (complete_of 3 +0·0 +0·0 ≡ Err Sums)
    × (complete_of (2 ^ 34) +0·0 +0·0 ≡ Ok (Complete (record { mean = +0·0; error = +0·0; spread = +0·0 })))
    × (complete_of (suc (2 ^ 34)) +0·0 +0·0 ≡ Err Sums) × (complete_of (2 ^ 35) +0·0 +0·0 ≡ Err Sums)
unfolding complete_of some sqrt of_bits of_int le lt div mul sub
counts = (refl, refl, refl, refl, refl)

-- squares above the count, fourth powers above squares, sums that are no numbers
disordered : (complete_of 1 (number 2) +1·0 ≡ Err Sums) × (complete_of 2 +0·0 +1·0 ≡ Err Sums) × (complete_of 2 (inf false) +1·0 ≡ Err Sums)
    × (complete_of 2 nan +0·0 ≡ Err Sums) × (complete_of 2 +1·0 nan ≡ Err Sums)
unfolding complete_of some of_bits of_int le
disordered = (refl, refl, refl, refl, refl)
