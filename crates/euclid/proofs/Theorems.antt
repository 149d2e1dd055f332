-- Euclid's rule finds the greatest common divisor, and a reduced fraction is the one in lowest terms.
use Rattle.std.specs.Prelude.{◌≡◌, refl, ℕ, ◌%◌, ◌<◌}
use Rattle.std.proofs.Math.Nat.{eq-one_of_dvd-one}
use Rattle.std.proofs.Common.{arith}
use Rattle.euclid.specs.declared.Fraction.{Fraction}
use Rattle.euclid.specs.Euclid.{Greatest, gcd, reduced, LowestTerms}
use Rattle.euclid.proofs.Laws.Turns as turns
use Rattle.euclid.proofs.Laws.Lowest as lowest

-- Euclid's rule
pub rule : (a b : ℕ) → (gcd a 0 ≡ a) × (gcd a b ≡ gcd b (a % b))
rule a b = (turns.gcd_zero a 0 refl, turns.gcd-rest a b)

-- it finds the greatest common divisor, and there is no other
pub greatest : (a b : ℕ) → Greatest a b (gcd a b)
greatest = turns.gcd-greatest

pub only-greatest : (a b d : ℕ) → Greatest a b d → d ≡ gcd a b
only-greatest a b d g = turns.one-greatest a b d (gcd a b) g (turns.gcd-greatest a b)

-- a reduced fraction is the number in lowest terms, and every fraction that is so is this one
pub in_lowest_terms : (top bottom : ℕ) → 0 < bottom → LowestTerms top bottom (reduced top bottom)
in_lowest_terms = lowest.reduced-lowest

pub only-lowest-terms : (top bottom : ℕ) → 0 < bottom → (f : Fraction) → LowestTerms top bottom f → f ≡ reduced top bottom
only-lowest-terms top bottom h f l = lowest.one-lowest top bottom h f (reduced top bottom) l (lowest.reduced-lowest top bottom h)

-- none of some is 0/1, and all of them 1/1
pub none_of : (n : ℕ) → 0 < n → record { top = 0; bottom = 1 } ≡ reduced 0 n
none_of n h = only-lowest-terms 0 n h _ (record { some = omega arith; same = omega arith; lowest = λ k p q. eq-one_of_dvd-one q })

pub all_of : (n : ℕ) → 0 < n → record { top = 1; bottom = 1 } ≡ reduced n n
all_of n h = only-lowest-terms n n h _ (record { some = omega arith; same = omega arith; lowest = λ k p q. eq-one_of_dvd-one q })
