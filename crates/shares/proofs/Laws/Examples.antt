-- Computed facts that rule out wrong readings.
use Rattle.std.specs.Prelude.{◌≡◌, refl, true, false, [], ◌∷◌, suc, ◌^◌, replicate}
use Rattle.std.specs.Float.{nan, inf, binary64}
use Rattle.std.specs.Float.Ieee.{of_bits, neg, lt, le, eq}
use Rattle.list_laws.specs.Count.{count}
use Rattle.list_laws.specs.Search.{some}
use Rattle.euclid.specs.Euclid.{turns, gcd, reduced}
use Rattle.std.specs.declared.result.Result.TheVariants.{Ok}
use Rattle.refusals.specs.Numbers.{refused}
use Rattle.shares.specs.Shares.{+0·0, +0·5, +1·0, start_of, bad_lists, shares_of, words_of, pooled}

-- [1.0] and [0.0, 0.0]: 1/3 is above zero, not the mean of 1 and 0
of-all-entries : shares_of (+1·0 ∷ +0·0 ∷ +0·0 ∷ []) (1 ∷ 2 ∷ []) ≡ Ok (pooled (+1·0 ∷ +0·0 ∷ +0·0 ∷ []))
unfolding shares_of count some start_of of_bits lt le eq neg
of-all-entries = refl

third : words_of (pooled (+1·0 ∷ +0·0 ∷ +0·0 ∷ [])) ≡ 1 ∷ 3 ∷ 2 ∷ 3 ∷ 0 ∷ 1 ∷ 1 ∷ 3 ∷ []
unfolding count of_bits lt le eq neg reduced gcd turns
third = refl

-- -0.0 is zero, 1/2 and -1/2 count, the double before 1/2 does not, and -1 belongs
kinds : words_of (pooled (neg +0·0 ∷ +0·5 ∷ neg +0·5 ∷ of_bits binary64 0x3fdf_ffff_ffff_ffff ∷ neg +1·0 ∷ +0·0 ∷ []))
    ≡ 1 ∷ 3 ∷ 1 ∷ 3 ∷ 1 ∷ 3 ∷ 1 ∷ 2 ∷ []
unfolding count of_bits lt le eq neg reduced gcd turns
kinds = refl

-- no list, an empty one, one too long, lengths that miss what is lent, and two that would only wrap to it
bad-lists : (bad_lists [] 0 ≡ true) × (bad_lists (0 ∷ []) 0 ≡ true) × (bad_lists (suc (2 ^ 24) ∷ []) (suc (2 ^ 24)) ≡ true)
    × (bad_lists (2 ∷ []) 1 ≡ true) × (bad_lists (2 ∷ []) 3 ≡ true) × (bad_lists (2 ^ 63 ∷ 2 ^ 63 ∷ []) 0 ≡ true) × (bad_lists (2 ^ 24 ∷ []) (2 ^ 24) ≡ false)
unfolding some start_of
bad-lists = (refl, refl, refl, refl, refl, refl, refl)

-- 256 lists pass, and 257 do not
lists : (bad_lists (replicate 256 1) 256 ≡ false) × (bad_lists (replicate 257 1) 257 ≡ true)
unfolding some start_of
lists = (refl, refl)

-- NaN, infinities and the double after 1
bad-entries : (refused (shares_of (+1·0 ∷ nan ∷ []) (2 ∷ [])) ≡ 25) × (refused (shares_of (inf false ∷ []) (1 ∷ [])) ≡ 25)
    × (refused (shares_of (inf true ∷ []) (1 ∷ [])) ≡ 25) × (refused (shares_of (of_bits binary64 0x3ff0_0000_0000_0001 ∷ []) (1 ∷ [])) ≡ 25)
unfolding shares_of count some start_of of_bits lt le eq neg
bad-entries = (refl, refl, refl, refl)
