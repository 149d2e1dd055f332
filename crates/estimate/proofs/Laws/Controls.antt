-- Computed facts that rule out wrong readings which no settled example reaches.
use Rattle.std.specs.Prelude.{◌≡◌, refl, suc, ◌^◌, false}
use Rattle.std.specs.declared.result.Result.TheVariants.{Ok, Err}
use Rattle.std.specs.Float.{nan, inf, binary64}
use Rattle.std.specs.Float.Ieee.{of_bits, of_int, neg, le, lt, div, mul, sub}
use Rattle.refusals.specs.declared.Refusal.TheVariants.{Sums}
use Rattle.sqrt.specs.Sqrt.{sqrt}
use Rattle.estimate.specs.declared.answer.Estimate.TheVariants.{Estimated, TooFew}
use Rattle.estimate.specs.Estimates.{estimate_of, +0·0, +1·0, number}

-- all squares are 1: the variance is zero
no_spread : estimate_of 2 (number 2) (number 2) ≡ Ok (Estimated (record { mean = +1·0; error = +0·0 }))
unfolding estimate_of sqrt of_bits of_int le lt div mul sub
no_spread = refl

-- a variance below zero; the mean is the double nearest to 1/3
below_zero : estimate_of 3 +1·0 (of_bits binary64 1) ≡ Ok (Estimated (record { mean = of_bits binary64 0x3fd5_5555_5555_5555; error = +0·0 }))
unfolding estimate_of sqrt of_bits of_int le lt div mul sub
below_zero = refl

-- -0.0 passes for zero in the order, and stays in the mean
minus_zero : estimate_of 2 (neg +0·0) (neg +0·0) ≡ Ok (Estimated (record { mean = neg +0·0; error = +0·0 }))
unfolding estimate_of sqrt of_bits of_int le lt div mul sub neg
minus_zero = refl

-- the least and the largest count, and those past them
limits : (estimate_of 0 +0·0 +0·0 ≡ Err Sums) × (estimate_of 1 +0·0 +0·0 ≡ Ok (TooFew +0·0))
    × (estimate_of (2 ^ 53) +0·0 +0·0 ≡ Ok (Estimated (record { mean = +0·0; error = +0·0 }))) × (estimate_of (suc (2 ^ 53)) +0·0 +0·0 ≡ Err Sums)
unfolding estimate_of sqrt of_bits of_int le lt div mul sub
limits = (refl, refl, refl, refl)

-- squares above the count, fourth powers above squares, sums that are no numbers
disordered : (estimate_of 1 (number 2) +1·0 ≡ Err Sums) × (estimate_of 2 +0·0 +1·0 ≡ Err Sums) × (estimate_of 2 (inf false) +1·0 ≡ Err Sums)
    × (estimate_of 2 nan +0·0 ≡ Err Sums) × (estimate_of 2 +1·0 nan ≡ Err Sums)
unfolding estimate_of of_bits of_int le
disordered = (refl, refl, refl, refl, refl)
