-- Laws of what specs/WholeRoot defines.
use Rattle.std.specs.Prelude.{refl, ℕ, zero, suc, ◌+◌, ◌*◌, ◌/◌, ◌^◌, ◌≤◌, ◌<◌, Bool, true, false, not, cond, T, leb}
use Rattle.std.proofs.Common.{subst, zero-le, lt_of_lt_of_le, le_trans, le_of_eq, pow-suc, lt_of_not-le, not-le_of_lt, mul-le-mul, le_of_suc-le-suc, arith, leb→le}
use Rattle.std.proofs.Math.Dec.{nleb→lt}
use Rattle.std.specs.Float.Ieee.{size}
use Rattle.std.specs.Float.Ieee.Digits.{size-lt}
use Rattle.sqrt.specs.WholeRoot.{WholeRoot, digit, digits, whole_root}

one_more : (n r : ℕ) → WholeRoot (n / 4) r → WholeRoot n (digit n r)
one_more n r h = let s = (2 * r + 1) * (2 * r + 1) in go (leb s n) (leb→le s n) (nleb→lt s n) h.least h.most
  where
    go : (b : Bool) → (T b → (2 * r + 1) * (2 * r + 1) ≤ n) → (T (not b) → n < (2 * r + 1) * (2 * r + 1))
        → r * r ≤ n / 4 → n / 4 < (r + 1) * (r + 1) → WholeRoot n (cond b (2 * r + 1) (2 * r))
    go true l g x y = record { least = l tt; most = omega arith }
    go false l g x y = record { least = omega arith; most = g tt }

digits-root : (d n : ℕ) → n < 4 ^ d → WholeRoot n (digits d n)
unfolding digits
digits-root zero n h = record { least = zero-le; most = h }
digits-root (suc d) n h =
    one_more n (digits d (n / 4)) (digits-root d (n / 4) (less (4 ^ d) (subst (λ (x : ℕ). n < x) (pow-suc 4 d) h)))
  where
    less : (p : ℕ) → n < p * 4 → n / 4 < p
    less p k = omega arith

two-four : (d : ℕ) → 2 ^ d ≤ 4 ^ d
two-four zero = le_of_eq refl
two-four (suc d) = omega (arith, two-four d, pow-suc 2 d, pow-suc 4 d)

pub whole_root-is : (n : ℕ) → WholeRoot n (whole_root n)
unfolding whole_root
whole_root-is n = digits-root (size n) n (lt_of_lt_of_le (size-lt n) (two-four (size n)))

-- a number whose square is not above n is not above the root, and one whose square is above n is above the root
pub root_reaches : (n w r : ℕ) → WholeRoot n w → r * r ≤ n → r ≤ w
root_reaches n w r h l =
    le_of_suc-le-suc (lt_of_not-le (λ (g : suc w ≤ r). not-le_of_lt h.most (le_trans (mul-le-mul (next w r g) (next w r g)) l)))
  where
    next : (a b : ℕ) → suc a ≤ b → a + 1 ≤ b
    next a b k = omega arith

pub root-under : (n w r : ℕ) → WholeRoot n w → n < r * r → w < r
root-under n w r h l = lt_of_not-le (λ (g : r ≤ w). not-le_of_lt l (le_trans (mul-le-mul g g) h.least))
