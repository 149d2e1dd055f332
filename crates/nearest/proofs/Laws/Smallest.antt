-- A finite value counted in the format's smallest values: m * 2 ^ i of them, where m has no more digits than the format keeps.
use Rattle.std.specs.Prelude.{◌≡◌, ℕ, zero, suc, ◌+◌, ◌-◌, ◌*◌, ◌%◌, ◌^◌, ◌≤◌, ◌<◌, Bool, ◌&&◌, ℤ, pos, negsuc, T, leb, ltb, eqb, Float}
use Rattle.std.proofs.Common.{sym, ap, ◌∙◌, zero-mul, one-mul, mul-lt-mul_of_pos_right, lt_of_mul-lt-mul_right, lt_of_not-le, not-le_of_lt, le_of_suc-le-suc, arith, leb→le, ltb→lt, pow-add, pow_pos}
use Rattle.std.proofs.Math.Pow.{pow-lt}
use Rattle.std.specs.Float.{nan, inf, fin, Format}
use Rattle.std.specs.Float.Ieee.{prec, emax, low, up, down, fits}
use Rattle.std.specs.Float.Ieee.Fits.{and_l, and_r}
use Rattle.std.specs.Float.Ieee.Positive.{num, den}
use Rattle.nearest.specs.Nearest.{nonnegative}

pub record Smallest (f : Format) (x : Float) (m i : ℕ) : Type 0 where
  pub same : num x * 2 ^ low f ≡ m * 2 ^ i * den x
  pub short : m < 2 ^ prec f
  pub bounded : m * 2 ^ i < 2 ^ (low f + suc (emax f))

-- 2 ^ e is 2 ^ j smallest values
power : (f : Format) (e : ℤ) → down e ≤ 2 ^ low f → (j : ℕ) × (up e * 2 ^ low f ≡ 2 ^ j * down e)
power f (pos k) h = (k + low f, omega (arith, pow-add 2 k (low f)))
power f (negsuc k) h =
    let l : suc k ≤ low f = le_of_suc-le-suc (lt_of_not-le (λ (g : suc (low f) ≤ suc k). not-le_of_lt (pow-lt g) h)) in
    (low f - suc k, one-mul (2 ^ low f) ∙ ap (λ (x : ℕ). 2 ^ x) (sym (back (low f) l)) ∙ pow-add 2 (low f - suc k) (suc k))
  where
    back : (l : ℕ) → suc k ≤ l → l - suc k + suc k ≡ l
    back l h = omega arith

held : (f : Format) (s : Bool) (m : ℕ) (e : ℤ) → m < 2 ^ prec f → down e ≤ 2 ^ low f → m * up e < 2 ^ suc (emax f) * down e
    → (j : ℕ) × Smallest f (fin s m e) m j
held f s m e a b c =
    let (j, g) = power f e b in
    let h : m * up e * 2 ^ low f ≡ m * 2 ^ j * down e = omega (arith, ap (λ (x : ℕ). m * x) g) in
    let i = mul-lt-mul_of_pos_right c (pow_pos (low f)) in
    let l : m * 2 ^ j * down e < 2 ^ (low f + suc (emax f)) * down e = rw pow-add (omega arith) in
    (j, record { same = h; short = a; bounded = lt_of_mul-lt-mul_right (down e) l })

pub in_smallest : (f : Format) (x : Float) → T (fits f x) → T (nonnegative x) → (m : ℕ) × (i : ℕ) × Smallest f x m i
unfolding fits
in_smallest f nan h p = absurd p
in_smallest f (inf s) h p = absurd p
in_smallest f (fin s zero e) h p = (
  0,
  0,
  record {
    same = ap (λ (z : ℕ). z * 2 ^ low f) (zero-mul (up e)) ∙ zero-mul (2 ^ low f) ∙ sym (zero-mul (down e));
    short = pow_pos (prec f);
    bounded = pow_pos (low f + suc (emax f));
  },
)
in_smallest f (fin s (suc m) e) h p =
    let A = eqb (suc m % 2) 1 in
    let B = ltb (suc m) (2 ^ prec f) in
    let C = leb (down e) (2 ^ low f) in
    let D = ltb (suc m * up e) (2 ^ suc (emax f) * down e) in
    let (j, u) =
    held f s (suc m) e
    (ltb→lt (suc m) (2 ^ prec f) (and_r A B (and_l (A && B) C (and_l (A && B && C) D h))))
    (leb→le (down e) (2 ^ low f) (and_r (A && B) C (and_l (A && B && C) D h)))
    (ltb→lt (suc m * up e) (2 ^ suc (emax f) * down e) (and_r (A && B && C) D h)) in
    (suc m, j, u)
