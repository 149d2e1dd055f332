-- Fractions of one whole whose tops add up to it add to one.
use Rattle.std.specs.Prelude.{◌≡◌, ℕ, ◌+◌, ◌*◌, ◌<◌}
use Rattle.std.proofs.Common.{ap, arith}
use Rattle.std.proofs.Math.Nat.{eq_of_mul-eq-mul_right}
use Rattle.euclid.specs.declared.Fraction.{Fraction}
use Rattle.shares.specs.declared.answer.Shares.{Shares}

-- p / q, r / s and t / u are a / n, b / n and c / n
pub one-whole : (a b c n p q r s t u : ℕ) → 0 < n → a + b + c ≡ n → p * n ≡ a * q → r * n ≡ b * s → t * n ≡ c * u
    → p * s * u + r * q * u + t * q * s ≡ q * s * u
one-whole a b c n p q r s t u h e x y z =
    eq_of_mul-eq-mul_right n h (p * s * u + r * q * u + t * q * s) (q * s * u)
    (let x' = ap (λ (k : ℕ). k * (s * u)) x in
    let y' = ap (λ (k : ℕ). k * (q * u)) y in
    let z' = ap (λ (k : ℕ). k * (q * s)) z in
    let e' = ap (λ (k : ℕ). k * (q * s * u)) e in
    omega arith)

-- shares are equal part by part
pub by_shares : (s s' : Shares) → s.above ≡ s'.above → s.zero ≡ s'.zero → s.below ≡ s'.below → s.half ≡ s'.half → s ≡ s'
by_shares s s' p q r t = of_parts s.above s'.above s.zero s'.zero s.below s'.below s.half s'.half p q r t
  where
    of_parts : (a a' z z' b b' h h' : Fraction) → a ≡ a' → z ≡ z' → b ≡ b' → h ≡ h'
        → ◌≡◌ {A = Shares} (record { above = a; zero = z; below = b; half = h }) (record { above = a'; zero = z'; below = b'; half = h' })
    of_parts a a' z z' b b' h h' p q r t = cc
