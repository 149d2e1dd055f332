-- Euclid's rule gives the greatest common divisor, also of two numbers that have one more factor.
use Rattle.std.specs.Prelude.{◌≡◌, ℕ, zero, suc, ◌+◌, ◌*◌, ◌/◌, ◌%◌, ◌≤◌, ◌<◌}
use Rattle.std.proofs.Common.{sym, ap, ◌∙◌, div-add-mod', mod-lt, mul-one, zero-mul, arith, eq-eqb, ne_eqb}
use Rattle.std.proofs.Math.Nat.{dvd_refl, dvd-zero, dvd-add, dvd-mul_left_of_dvd, dvd-add_iff_right, dvd_antisymm}
use Rattle.std.proofs.Math.Decide.{ℕ_discrete}
use Rattle.euclid.specs.Euclid.{Greatest, turns, gcd}

-- of a number and 0 it is the number
of_zero : (a b : ℕ) → b ≡ 0 → Greatest a b a
of_zero a b e = record { first = dvd_refl a; second = rw e (dvd-zero a); every = λ k p q. p }

-- what x has in common with y, y has in common with what is left of x by y
of-rest : (x y q r d : ℕ) → x ≡ q * y + r → Greatest y r d → Greatest x y d
of-rest x y q r d e g = record {
  first = rw e (dvd-add d (dvd-mul_left_of_dvd d g.first q) g.second);
  second = g.first;
  every = λ k p s. g.every k s ((dvd-add_iff_right k (dvd-mul_left_of_dvd k s q)).1 (rw e at p));
}

-- n turns are enough where b is at most n
turns-greatest : (n a b s : ℕ) → b ≤ n → Greatest (a * s) (b * s) (turns n a b * s)
unfolding turns
turns-greatest zero a b s h = let e : b ≡ 0 = omega arith in of_zero (a * s) (b * s) (rw e (zero-mul s))
turns-greatest (suc n) a b s h = go (turns-greatest n b (a % b) s) (ℕ_discrete b 0)
  where
    go : (a % b ≤ n → Greatest (b * s) (a % b * s) (turns n b (a % b) * s)) → Dec (b ≡ 0) → Greatest (a * s) (b * s) (turns (suc n) a b * s)
    go ih (yes e) = rw (eq-eqb b 0 e) (of_zero (a * s) (b * s) (rw e (zero-mul s)))
    go ih (no m) =
        let l : a % b < b = mod-lt a (omega arith) in
        let e : a * s ≡ a / b * (b * s) + a % b * s = ap (λ (x : ℕ). x * s) (sym (div-add-mod' a b)) ∙ omega arith in
        rw (ne_eqb b 0 m) (of-rest (a * s) (b * s) (a / b) (a % b * s) (turns n b (a % b) * s) e (ih (omega arith)))

pub gcd-greatest : (a b : ℕ) → Greatest a b (gcd a b)
unfolding gcd
gcd-greatest a b = simp mul-one at (turns-greatest b a b 1 (omega arith))

-- so is the product with s of the two times s
pub gcd-scaled : (a b s : ℕ) → Greatest (a * s) (b * s) (gcd a b * s)
unfolding gcd
gcd-scaled a b s = turns-greatest b a b s (omega arith)

-- two numbers have one greatest common divisor
pub one-greatest : (a b d e : ℕ) → Greatest a b d → Greatest a b e → d ≡ e
one-greatest a b d e g h = dvd_antisymm (h.every d g.first g.second) (g.every e h.first h.second)

-- ---- Euclid's rule

pub gcd_zero : (a b : ℕ) → b ≡ 0 → gcd a b ≡ a
gcd_zero a b e = one-greatest a b (gcd a b) a (gcd-greatest a b) (of_zero a b e)

pub gcd-rest : (a b : ℕ) → gcd a b ≡ gcd b (a % b)
gcd-rest a b =
    one-greatest a b (gcd a b) (gcd b (a % b)) (gcd-greatest a b)
    (of-rest a b (a / b) (a % b) (gcd b (a % b)) (sym (div-add-mod' a b)) (gcd-greatest b (a % b)))
