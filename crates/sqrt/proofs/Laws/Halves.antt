-- A root in halves of the last place that is kept, and that the definition's numbers are such.
use Rattle.std.specs.Prelude.{◌≡◌, ℕ, zero, suc, ◌+◌, ◌-◌, ◌*◌, ◌/◌, ◌%◌, ◌^◌, ◌≤◌, ◌<◌, Bool, true, false, not, T, leb}
use Rattle.std.proofs.Common.{sym, ap, ◌∙◌, inl, inr, le_trans, le_of_eq, lt_of_lt_of_le, lt_of_not-le, lt_irrefl, eq-or-lt_of_le, pow-suc, mul-one, one-mul, mul-pos, mul_assoc, mul-le-mul_left, mul-le-mul_right, le-div_iff_mul-le, div-lt_iff_lt-mul, arith, leb→le, lit≤, pow-add, pow_pos, pow_mono}
use Rattle.std.proofs.Math.Nat.{eq_of_mul-eq-mul_right}
use Rattle.std.proofs.Math.Dec.{nleb→lt}
use Rattle.std.specs.Float.{Format, binary32, binary64}
use Rattle.std.specs.Float.Ieee.{prec, low, size}
use Rattle.std.specs.Float.Ieee.Digits.{size-lt, size_reaches}
use Rattle.sqrt.specs.WholeRoot.{WholeRoot}
use Rattle.sqrt.proofs.Laws.WholeRoot.{whole_root-is, root_reaches, root-under}
use Rattle.sqrt.specs.Sqrt.{doubled_square, dropped, halves}

-- x is n smallest values. h is the whole part of √x in halves of 2 ^ k smallest values, has one digit more than the format keeps, and √x is
-- no odd number of halves.
pub record Halves (f : Format) (n h k : ℕ) : Type 0 where
  pub least : h * h * (2 ^ k * 2 ^ k) ≤ doubled_square f n
  pub most : doubled_square f n < (h + 1) * (h + 1) * (2 ^ k * 2 ^ k)
  pub no_tie : h % 2 ≡ 1 → h * h * (2 ^ k * 2 ^ k) < doubled_square f n
  pub long : 2 ^ prec f ≤ h
  pub short : h < 2 ^ suc (prec f)

-- ---- the square of an odd number has no factor 2, and here more digits than m: it is m times no power of two
odd_no : (h x : ℕ) → h % 2 ≡ 1 → h * h ≡ x * 2 → ⊥
odd_no h x o e = go (h / 2) (omega arith)
  where
    go : (q : ℕ) → h ≡ 2 * q + 1 → ⊥
    go q k = let s : h * h ≡ (2 * q + 1) * (2 * q + 1) = ap (λ (z : ℕ). z * z) k in omega arith

too_long : (p h m : ℕ) → p ≤ h → m < p → h * h ≤ m → ⊥
too_long p h m a b c = let d : h * 1 ≤ h * h = mul-le-mul_left h (omega arith) in omega arith

shifted : (x a b : ℕ) → a ≤ b → x * 2 ^ b ≡ x * 2 ^ (b - a) * 2 ^ a
shifted x a b l =
    let e : b - a + a ≡ b = omega arith in
    sym (mul_assoc x (2 ^ (b - a)) (2 ^ a) ∙ ap (λ (z : ℕ). x * z) (sym (pow-add 2 (b - a) a) ∙ ap (λ (z : ℕ). 2 ^ z) e))

no_square : (p h m a b : ℕ) → h % 2 ≡ 1 → p ≤ h → m < p → h * h * 2 ^ a ≡ m * 2 ^ b → ⊥
no_square p h m a b o l s e = go (leb a b) (leb→le a b) (nleb→lt a b)
  where
    even : (d : ℕ) → h * h ≡ m * 2 ^ d → ⊥
    even zero q = too_long p h m l s (le_of_eq (q ∙ mul-one m))
    even (suc d) q = odd_no h (m * 2 ^ d) o (q ∙ ap (λ (z : ℕ). m * z) (pow-suc 2 d) ∙ sym (mul_assoc m (2 ^ d) 2))

    at-most : (x y z : ℕ) → 0 < y → x * y ≡ z → x ≤ z
    at-most x y z Y q = le_trans (le_of_eq (sym (mul-one x))) (le_trans (mul-le-mul_left x Y) (le_of_eq q))

    go : (t : Bool) → (T t → a ≤ b) → (T (not t) → b < a) → ⊥
    go true g k = even (b - a) (eq_of_mul-eq-mul_right (2 ^ a) (pow_pos a) (h * h) (m * 2 ^ (b - a)) (e ∙ shifted m a b (g tt)))
    go false g k =
        let d = k tt in
        let q = sym (shifted (h * h) b a (omega arith)) ∙ e in
        too_long p h m l s
        (at-most (h * h) (2 ^ (a - b)) m (pow_pos (a - b)) (eq_of_mul-eq-mul_right (2 ^ b) (pow_pos b) (h * h * 2 ^ (a - b)) m q))

-- ---- the definition's numbers
roomy : (f : Format) → prec f + prec f ≤ suc (suc (low f))
roomy binary32 = lit≤ tt
roomy binary64 = lit≤ tt

module _ (f : Format) (m i : ℕ) (M : 0 < m) (S : m < 2 ^ prec f) where
  abbrev n : ℕ
  n = m * 2 ^ i

  abbrev s : ℕ
  s = doubled_square f n

  abbrev k : ℕ
  k = dropped f n

  abbrev h : ℕ
  h = halves f n

  s-is : s ≡ m * 2 ^ (i + suc (suc (low f)))
  s-is = mul_assoc m (2 ^ i) (2 ^ suc (suc (low f))) ∙ ap (λ (z : ℕ). m * z) (sym (pow-add 2 i (suc (suc (low f)))))

  -- s has more than low + 2 digits, which is enough for twice prec
  large : 2 ^ suc (suc (low f)) ≤ s
  large =
      let p = 2 ^ (i + suc (suc (low f))) in
      le_trans (pow_mono (omega arith)) (le_trans (le_of_eq (sym (one-mul p))) (le_trans (mul-le-mul_right p M) (le_of_eq (sym s-is))))

  long-enough : suc (suc (low f)) < size s
  long-enough = lt_of_not-le (λ (g : size s ≤ suc (suc (low f))). lt_irrefl s (lt_of_lt_of_le (size-lt s) (le_trans (pow_mono g) large)))

  enough : prec f + k ≡ (size s - 1) / 2
  enough = let a = roomy f in let b = long-enough in omega arith

  fourfold : (j : ℕ) → 2 ^ j * 2 ^ j * (2 ^ k * 2 ^ k) ≡ 2 ^ (j + j + (k + k))
  fourfold j =
      sym (pow-add 2 (j + j) (k + k) ∙ ap (λ (z : ℕ). z * 2 ^ (k + k)) (pow-add 2 j j) ∙ ap (λ (z : ℕ). 2 ^ j * 2 ^ j * z) (pow-add 2 k k))

  from-below : 2 ^ prec f * 2 ^ prec f * (2 ^ k * 2 ^ k) ≤ s
  from-below =
      let a = enough in
      let b = long-enough in
      le_trans (le_of_eq (fourfold (prec f))) (size_reaches s (prec f + prec f + (k + k)) (omega arith))

  from-above : s < 2 ^ suc (prec f) * 2 ^ suc (prec f) * (2 ^ k * 2 ^ k)
  from-above =
      let a = enough in
      let j = suc (prec f) in
      lt_of_lt_of_le (size-lt s) (le_trans (pow_mono {j = j + j + (k + k)} (omega arith)) (le_of_eq (sym (fourfold j))))

  unit_pos : 0 < 2 ^ k * 2 ^ k
  unit_pos = mul-pos (pow_pos k) (pow_pos k)

  root : WholeRoot (s / (2 ^ k * 2 ^ k)) h
  root = whole_root-is (s / (2 ^ k * 2 ^ k))

  at_least : h * h * (2 ^ k * 2 ^ k) ≤ s
  at_least = (le-div_iff_mul-le unit_pos).0 root.least

  digits : 2 ^ prec f ≤ h
  digits = root_reaches (s / (2 ^ k * 2 ^ k)) h (2 ^ prec f) root ((le-div_iff_mul-le unit_pos).1 from-below)

  pub halves_are : Halves f n h k
  halves_are = record {
    least = at_least;
    most = (div-lt_iff_lt-mul unit_pos).0 root.most;
    no_tie = λ o. elim (eq-or-lt_of_le at_least) [
      | inl e ↦
          absurd (no_square (2 ^ prec f) h m (k + k) (i + suc (suc (low f))) o digits S (ap (λ (z : ℕ). h * h * z) (pow-add 2 k k) ∙ e ∙ s-is))
      | inr l ↦ l
    ];
    long = digits;
    short = root-under (s / (2 ^ k * 2 ^ k)) h (2 ^ suc (prec f)) root ((div-lt_iff_lt-mul unit_pos).1 from-above);
  }
