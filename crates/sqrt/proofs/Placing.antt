-- Where the digits of a root start: by the fields of the pattern, moved up, and from there to the root's halves.
use mathlib.Core.Path.{◌≡◌, refl, sym, ap, ◌∙◌, subst}
use Prim.Native.Nat.{ℕ, zero, suc, ◌+◌, ◌-◌, ◌*◌, ◌/◌, ◌%◌, ◌^◌, ◌≤◌, ◌<◌}
use native.Mathlib.Nat.{le_trans, le_of_eq, lt_of_lt_of_le, lt_of_le_of_lt, pow-suc, one-mul, mul-one, zero-lt-suc, lt_irrefl}
use native.Mathlib.Nat.{mul-pos, mul_assoc, mul-le-mul_right, mul-lt-mul_of_pos_right}
use native.Mathlib.Omega.{arith}
use lib.Dec.{lit≤, lit<}
use lib.Pow.{pow-add, pow_pos}
use lib.Ieee.{binary64}
use Rattle.sqrt.specs.WholeRoot.{WholeRoot}
use Rattle.sqrt.proofs.Laws.WholeRoot.{root_reaches, root-under}
use Rattle.sqrt.proofs.Laws.Halves.{Halves}
use Rattle.sqrt.specs.Placed.{Fields, magnitude, Placed}

-- ---- a significand m, and a field d of 1 at least
spread : (m a k : ℕ) → m * 2 ^ a * (2 ^ k * 2 ^ k) ≡ m * 2 ^ (a + (k + k))
spread m a k =
    mul_assoc m (2 ^ a) (2 ^ k * 2 ^ k) ∙ ap (λ (z : ℕ). m * z) (sym (pow-add 2 a (k + k) ∙ ap (λ (z : ℕ). 2 ^ a * z) (pow-add 2 k k)))

joined : (m a b : ℕ) → m * 2 ^ a * 2 ^ b ≡ m * 2 ^ (a + b)
joined m a b = mul_assoc m (2 ^ a) (2 ^ b) ∙ ap (λ (z : ℕ). m * z) (sym (pow-add 2 a b))

module _ (m d : ℕ) (M : 0 < m) (S : m < 2 ^ 53) (D : 0 < d) (E : d < 2047) where
  abbrev k : ℕ
  k = (d + 1021) / 2

  odd_field : d % 2 ≡ 1 → Placed (m * 2 ^ (d - 1)) m k
  odd_field o = record {
    some = mul-pos M (pow_pos (d - 1));
    same = spread m 54 k ∙ ap (λ (z : ℕ). m * 2 ^ z) (omega arith) ∙ sym (joined m (d - 1) 1076);
    small = omega arith;
    positive = M;
    low = omega arith;
  }

  even_field : d % 2 ≡ 0 → Placed (m * 2 ^ (d - 1)) (2 * m) k
  even_field o = record {
    some = mul-pos M (pow_pos (d - 1));
    same =
        ap (λ (z : ℕ). z * (2 ^ k * 2 ^ k)) twice ∙ spread m 55 k ∙ ap (λ (z : ℕ). m * 2 ^ z) (omega arith)
        ∙ sym (joined m (d - 1) 1076);
    small = omega arith;
    positive = omega arith;
    low = omega arith;
  }
    where
      twice : 2 * m * 2 ^ 54 ≡ m * 2 ^ 55
      twice = omega arith

-- ---- the fields as they are
module _ (x t : ℕ) (F : Fields x t) where
  pub placed_zero : x ≡ 0 → Placed (magnitude x t) t 511
  placed_zero e =
      let a = F.above in
      let b = F.short in
      rw e (subst (λ (z : ℕ). Placed z t 511) (mul-one t) (odd_field t 1 (omega arith) (omega arith) (lit< tt) (lit< tt) refl))

  magnitude-is : (x : ℕ) → 0 < x → (t + 2 ^ 52) * 2 ^ (x - 1) ≡ magnitude x t
  magnitude-is zero h = absurd (lt_irrefl 0 h)
  magnitude-is (suc x) h =
      let e : suc x - 1 ≡ x = omega arith in
      let g : t + 2 ^ 52 ≡ 2 ^ 52 + t = omega arith in
      rw (e, g)

  module _ (n : x ≡ 0 → ⊥) where
    pub placed-odd : x % 2 ≡ 1 → Placed (magnitude x t) (t + 2 ^ 52) ((x + 1021) / 2)
    placed-odd o =
        let b = F.short in
        subst (λ (z : ℕ). Placed z (t + 2 ^ 52) ((x + 1021) / 2)) (magnitude-is x (omega (arith, n)))
        (odd_field (t + 2 ^ 52) x (omega arith) (omega arith) (omega (arith, n)) F.finite o)

    pub placed_even : x % 2 ≡ 0 → Placed (magnitude x t) (2 * (t + 2 ^ 52)) ((x + 1021) / 2)
    placed_even o =
        let b = F.short in
        subst (λ (z : ℕ). Placed z (2 * (t + 2 ^ 52)) ((x + 1021) / 2)) (magnitude-is x (omega (arith, n)))
        (even_field (t + 2 ^ 52) x (omega arith) (omega arith) (omega (arith, n)) F.finite o)

-- ---- moved up by two digits
-- at k = 0 m would be too large
pub placed_pos : (n m k : ℕ) → Placed n m k → 0 < k
placed_pos n m zero h = absurd (go (n * 2 ^ 1076) (le_trans (lit≤ tt) many) h.same h.small)
  where
    many : 2 ^ 1076 ≤ n * 2 ^ 1076
    many = subst (λ (z : ℕ). z ≤ n * 2 ^ 1076) (one-mul (2 ^ 1076)) (mul-le-mul_right (2 ^ 1076) h.some)

    go : (p : ℕ) → 2 ^ 108 ≤ p → m * 2 ^ 54 * (1 * 1) ≡ p → m + 2 ≤ 2 ^ 54 → ⊥
    go p a b c = omega arith
placed_pos n m (suc k) h = zero-lt-suc k

pub placed-up : (n m k : ℕ) → Placed n m k → m < 2 ^ 52 → Placed n (4 * m) (k - 1)
placed-up n m k h l =
    let p = placed_pos n m k h in
    let e : k ≡ suc (k - 1) = omega arith in
    record {
      some = h.some;
      same = four (2 ^ (k - 1)) ∙ sym (ap (λ (z : ℕ). m * 2 ^ 54 * (z * z)) (ap (λ (z : ℕ). 2 ^ z) e ∙ pow-suc 2 (k - 1))) ∙ h.same;
      small = omega arith;
      positive = let p = h.positive in omega arith;
      low = let p = h.low in omega arith;
    }
  where
    four : (p : ℕ) → 4 * m * 2 ^ 54 * (p * p) ≡ m * 2 ^ 54 * (p * 2 * (p * 2))
    four p = omega arith

-- ---- to the root's halves
odd-square : (h m : ℕ) → h % 2 ≡ 1 → h * h ≤ m * 2 ^ 54 → h * h < m * 2 ^ 54
odd-square h m o l = go (h / 2) (omega arith)
  where
    go : (q : ℕ) → h ≡ 2 * q + 1 → h * h < m * 2 ^ 54
    go q e = let s : h * h ≡ (2 * q + 1) * (2 * q + 1) = ap (λ (z : ℕ). z * z) e in omega arith

module _ (n m k h : ℕ) (p : Placed n m k) (l : 2 ^ 52 ≤ m) (r : WholeRoot (m * 2 ^ 54) h) where
  pub placed-short : h < 2 ^ 54 - 1
  placed-short = root-under (m * 2 ^ 54) h (2 ^ 54 - 1) r (let s = p.small in omega arith)

  pub placed-halves : Halves binary64 n h k
  placed-halves =
      let q = 2 ^ k * 2 ^ k in
      let Q : 0 < q = mul-pos (pow_pos k) (pow_pos k) in
      record {
        least = le_trans (mul-le-mul_right q r.least) (le_of_eq p.same);
        most = lt_of_le_of_lt (le_of_eq (sym p.same)) (mul-lt-mul_of_pos_right r.most Q);
        no_tie = λ o. lt_of_lt_of_le (mul-lt-mul_of_pos_right (odd-square h m o r.least) Q) (le_of_eq p.same);
        long = root_reaches (m * 2 ^ 54) h (2 ^ 53) r (omega arith);
        short = let s = placed-short in omega arith;
      }
