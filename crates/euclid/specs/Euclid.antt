-- The greatest common divisor by Euclid's rule, and fractions in lowest terms.
use Rattle.std.specs.Prelude.{◌≡◌, cond, ℕ, zero, suc, ◌*◌, ◌/◌, ◌%◌, ◌<◌, eqb}
use Rattle.std.specs.Int.{◌∣◌}
use Rattle.euclid.specs.declared.Fraction.{Fraction}

-- d divides a and b, and every number that divides both divides d
pub record Greatest (a b d : ℕ) : Type 0 where
  pub first : d ∣ a
  pub second : d ∣ b
  pub every : (k : ℕ) → k ∣ a → k ∣ b → k ∣ d

-- Euclid's rule for n turns: a where b is 0, else that of b and of the remainder of a by b
unfoldable pub turns : ℕ → ℕ → ℕ → ℕ
turns zero a b = a
turns (suc n) a b = cond (eqb b 0) a (turns n b (a % b))

-- the remainder falls in each turn, so that b turns are enough
unfoldable pub gcd : ℕ → ℕ → ℕ
gcd a b = turns b a b

-- top and bottom over their greatest common divisor
unfoldable pub reduced : ℕ → ℕ → Fraction
reduced top bottom = record { top = top / gcd top bottom; bottom = bottom / gcd top bottom }

-- f is top / bottom in lowest terms: the same number, by its cross products, and 1 alone divides both of f
pub record LowestTerms (top bottom : ℕ) (f : Fraction) : Type 0 where
  pub some : 0 < f.bottom
  pub same : f.top * bottom ≡ top * f.bottom
  pub lowest : (k : ℕ) → k ∣ f.top → k ∣ f.bottom → k ≡ 1
