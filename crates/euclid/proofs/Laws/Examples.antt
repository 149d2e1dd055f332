-- Computed facts of small numbers.
use Rattle.std.specs.Prelude.{◌≡◌, refl}
use Rattle.euclid.specs.Euclid.{turns, gcd, reduced}

divisors : (gcd 12 18 ≡ 6) × (gcd 18 12 ≡ 6) × (gcd 0 7 ≡ 7) × (gcd 7 0 ≡ 7) × (gcd 0 0 ≡ 0) × (gcd 89 55 ≡ 1)
unfolding gcd turns
divisors = (refl, refl, refl, refl, refl, refl)

fractions : (reduced 6 9 ≡ record { top = 2; bottom = 3 }) × (reduced 0 9 ≡ record { top = 0; bottom = 1 })
    × (reduced 9 9 ≡ record { top = 1; bottom = 1 }) × (reduced 4 9 ≡ record { top = 4; bottom = 9 })
unfolding reduced gcd turns
fractions = (refl, refl, refl, refl)
