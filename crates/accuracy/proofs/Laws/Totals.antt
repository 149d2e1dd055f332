-- Sums of squares and of fourth powers of correlations, chunk by chunk, and their means: each is the exact one but for so many roundings.
use Rattle.std.specs.Prelude.{◌≡◌, refl, Bool, true, cond, leb, Float}
use Rattle.std.proofs.Math.Path.{sym, subst}
use Rattle.std.proofs.Common.{◌∙◌, ap, subst₂, le_trans, le_of_lt, zero-mul, mul-le-mul_right, arith, leb→le, lit≤}
use Rattle.std.proofs.Math.Bool.{false}
use Prim.Native.Nat.{ℕ, zero, suc, ◌+◌, ◌*◌, ◌^◌, ◌≤◌, ◌<◌}
use Rattle.std.proofs.Math.Nat.{mul-pos}
use Rattle.std.proofs.Math.Decide.{dec_lt}
use Rattle.std.proofs.Math.Dec.{T}
use Rattle.std.specs.Float.Ieee.{binary64, add, div, round}
use Rattle.std.specs.Float.Ieee.Scale.{finite}
use Rattle.std.specs.Float.Ieee.Back.{round_whole}
use Rattle.rounding.specs.Under.{unit}
use Rattle.rounding.proofs.Laws.Under.{div_under}
use Rattle.rounding.specs.Laws.Under.{Under}
use Rattle.rounding.proofs.Laws.Sums.{total}
use Rattle.rounding.specs.Whole.{whole}
use Rattle.rounding.proofs.Laws.Whole.{whole-finite, whole-positive}
use Rattle.rounding.specs.Laws.Powers as Powers
use Rattle.rounding.proofs.Laws.Powers as P
use Rattle.rounding.proofs.Laws.Powers.{Chained, square-under, chained_run, chunked_equal}
use Rattle.fraction.proofs.Fraction.{ℚ, zeroℚ, oneℚ, invℚ}
use Rattle.fraction.proofs.Laws.Fraction.{mul_inv_pos}
use Rattle.fraction.proofs.Value.{value}
use Rattle.fraction.proofs.Laws.Value.{value-plus}
use Rattle.transfer_matrix.specs.Arithmetic.{sum}
use Rattle.transfer_matrix.specs.Rounded.{ieee}
use Rattle.transfer_matrix.specs.Totals.{square, fourth, chunked}
use Rattle.exactness.specs.Exact.{rational}
use Rattle.bounds.proofs.Laws.Pairs.{sum_is}
use Rattle.accuracy.specs.Stated.{squares_roundings, fourths_roundings, units_of, total_bound}
use Rattle.accuracy.specs.Ring.{NonNeg, nat}
use Rattle.accuracy.proofs.Laws.Ring.{◌⊹◌, ◌⋆◌, ◌≼◌, ≼-of, ≼-times, ≼_trans, nat_add, nn_zero, nn_frac, *-one, one-*, zero_*, *_comm}
use Rattle.accuracy.proofs.Laws.Ring.{+_zero}
use Rattle.accuracy.proofs.Laws.Within.{within_zero, within_mono}
use Rattle.accuracy.specs.Rounds.{ε}
use Rattle.accuracy.proofs.Close.{Close, gain}
use Rattle.accuracy.proofs.Laws.Close.{close_mul, close_div}
use Rattle.accuracy.proofs.Laws.Sums.{sum-close}
use Rattle.accuracy.proofs.Laws.Sizes.{smallest-one, above-nat, nat_mono}
use Rattle.accuracy.proofs.Laws.Roundings.{most_roundings, gain_bound, gain-double}
use Rattle.accuracy.proofs.Apart.{Apart}
use Rattle.accuracy.proofs.Laws.Apart.{apart_of}
use Rattle.accuracy.proofs.Laws.Bound.{units-value}

-- ---- a power of one correlation

module _ {k : ℕ} {c : Float} {t : ℚ} (near : Close k c t oneℚ) (inside : Under c unit) where
  -- The square and the fourth power.
  pub square-close : Close (suc (k + k)) (square ieee c) (square rational t) oneℚ
  square-close = close_mul oneℚ ((square-under binary64 inside).size tt).is_finite near near (≼-of _ _ (*-one oneℚ)) smallest-one

pub fourth-close : {k : ℕ} {c : Float} {t : ℚ} → Close k c t oneℚ → Under c unit → Close (suc (suc (k + k) + suc (k + k))) (fourth ieee c) (fourth rational t) oneℚ
fourth-close near inside =
    let s = square-close near inside in
    close_mul oneℚ ((square-under binary64 (square-under binary64 inside)).size tt).is_finite s s (≼-of _ _ (*-one oneℚ)) smallest-one

-- ---- sums of numbers of size at most one

ones : (m : ℕ) → sum rational m (λ j. oneℚ) ≡ nat m
unfolding sum
ones zero = refl
ones (suc m) = ap (λ z. z ⊹ oneℚ) (ones m) ∙ sym (nat_add m 1) ∙ ap nat (omega arith)

times : (n m : ℕ) → sum rational n (λ i. nat m) ≡ nat (n * m)
unfolding sum
times zero m = sym (ap nat (zero-mul m))
times (suc n) m = ap (λ z. z ⊹ nat m) (times n m) ∙ sym (nat_add (n * m) m) ∙ ap nat (omega arith)

-- A sum of sums: each chunk's terms and the chunks.
pub chunked-close : (k n m : ℕ) (x : ℕ → ℕ → Float) (t : ℕ → ℕ → ℚ) → 1 ≤ m → ((i j : ℕ) → i < n → j < m → Close k (x i j) (t i j) oneℚ)
    → ((i : ℕ) → i < n → T (finite (sum ieee m (x i)))) → T (finite (chunked ieee n m x))
    → Close (k + m + n) (chunked ieee n m x) (chunked rational n m t) (nat (n * m))
unfolding chunked
chunked-close k n m x t some near fin all =
    subst (Close (k + m + n) (sum ieee n (λ i. sum ieee m (x i))) (sum rational n (λ i. sum rational m (t i)))) (times n m)
    (sum-close (k + m) (λ i. sum ieee m (x i)) (λ i. sum rational m (t i)) (λ i. nat m) n
    (λ i l. subst (Close (k + m) (sum ieee m (x i)) (sum rational m (t i))) (ones m)
    (sum-close k (x i) (t i) (λ j. oneℚ) m (λ j b. near i j l b) (λ j b. smallest-one) (fin i l)))
    (λ i l. ≼_trans smallest-one (nat_mono 1 m some)) all)

-- ---- the totals

module _ (k n m : ℕ) (c : ℕ → ℕ → Float) (t : ℕ → ℕ → ℚ) (some : 1 ≤ m) (few : n * m ≤ 2 ^ 53)
    (near : (i j : ℕ) → i < n → j < m → Close k (c i j) (t i j) oneℚ) (inside : (i j : ℕ) → i < n → j < m → Under (c i j) unit) where
  m-few : (i : ℕ) → i < n → m ≤ 2 ^ 53
  m-few i l = le_trans (let q = mul-le-mul_right m l in omega arith) few

  chunk : (i : ℕ) → i < n → Chained binary64 (total binary64 (λ j. Powers.fourth binary64 (c i j)) m) (total binary64 (λ j. Powers.square binary64 (c i j)) m) m
  chunk i l = chained_run binary64 (c i) m (m-few i l) (λ j b. inside i j l b)

  everything : Chained binary64 (P.chunks binary64 (Powers.fourth binary64) c (λ _. m) n) (P.chunks binary64 (Powers.square binary64) c (λ _. m) n) (n * m)
  everything = chunked_equal binary64 c m n few (λ i l j b. inside i j l b)

  -- The sums of a chunk, and of all, are finite.
  square_run : (i : ℕ) → i < n → T (finite (sum ieee m (λ j. square ieee (c i j))))
  square_run i l = rw (sum_is m (λ j. square ieee (c i j))) ((chunk i l).squares.size (whole-finite binary64 m (m-few i l))).is_finite

  fourth_run : (i : ℕ) → i < n → T (finite (sum ieee m (λ j. fourth ieee (c i j))))
  fourth_run i l =
      rw (sum_is m (λ j. fourth ieee (c i j))) ((chunk i l).fourths.size ((chunk i l).squares.size (whole-finite binary64 m (m-few i l))).is_finite).is_finite

  square-all : T (finite (chunked ieee n m (λ i j. square ieee (c i j))))
  unfolding chunked
  square-all = simp sum_is (everything.squares.size (whole-finite binary64 (n * m) few)).is_finite

  fourth-all : T (finite (chunked ieee n m (λ i j. fourth ieee (c i j))))
  unfolding chunked
  fourth-all = simp sum_is (everything.fourths.size (everything.squares.size (whole-finite binary64 (n * m) few)).is_finite).is_finite

  -- The sums of squares and of fourth powers, with so many roundings,
  pub squares-close : Close (suc (k + k) + m + n) (chunked ieee n m (λ i j. square ieee (c i j))) (chunked rational n m (λ i j. square rational (t i j))) (nat (n * m))
  squares-close =
      chunked-close (suc (k + k)) n m (λ i j. square ieee (c i j)) (λ i j. square rational (t i j)) some
      (λ i j l b. square-close (near i j l b) (inside i j l b)) square_run square-all

  pub fourths-close : Close (suc (suc (k + k) + suc (k + k)) + m + n) (chunked ieee n m (λ i j. fourth ieee (c i j)))
      (chunked rational n m (λ i j. fourth rational (t i j))) (nat (n * m))
  fourths-close =
      chunked-close (suc (suc (k + k) + suc (k + k))) n m (λ i j. fourth ieee (c i j)) (λ i j. fourth rational (t i j)) some
      (λ i j l b. fourth-close (near i j l b) (inside i j l b)) fourth_run fourth-all

  -- The mean of the squares, by a count that is a double.
  pub mean-close : 1 ≤ n → Close (suc (suc (k + k) + m + n)) (div binary64 (chunked ieee n m (λ i j. square ieee (c i j))) (whole binary64 (n * m)))
      (chunked rational n m (λ i j. square rational (t i j)) ⋆ invℚ (nat (n * m))) oneℚ
  unfolding chunked
  mean-close one =
      let count : 0 < n * m = mul-pos one some in
      let y = whole binary64 (n * m) in
      let v : value y ≡ nat (n * m) = value-plus y (n * m) 1 (round_whole binary64 false (n * m) few) (omega arith) in
      let p = whole-positive binary64 (n * m) count few in
      let f = ((div_under binary64 everything.squares p).size tt).is_finite in
      let g : T (finite (div binary64 (chunked ieee n m (λ i j. square ieee (c i j))) y)) = subst (λ (s : Float). T (finite (div binary64 s y))) chunks_are f in
      subst (λ q. Close (suc (suc (k + k) + m + n)) (div binary64 (chunked ieee n m (λ i j. square ieee (c i j))) y)
      (chunked rational n m (λ i j. square rational (t i j)) ⋆ invℚ q) oneℚ) v
      (close_div y oneℚ p g squares-close (≼-of _ _ (ap (λ q. nat (n * m) ⋆ invℚ q) v ∙ mul_inv_pos (nat (n * m)) (above-nat (n * m) count))) smallest-one)
    where
      chunks_are : P.chunks binary64 (Powers.square binary64) c (λ _. m) n ≡ chunked ieee n m (λ i j. square ieee (c i j))
      chunks_are = sym (simp sum_is)

-- ---- roundings in units

-- What so many roundings do to a sum of size m at most.
close-total : (k m : ℕ) (x : Float) (e : ℚ) → k < 2 ^ 52 → Close k x e (nat m) → Apart (value x) e (nat m ⋆ value (total_bound k))
close-total k m x e h c =
    apart_of (value x) e c.error (nat m ⋆ value (total_bound k)) c.is
    (within_mono c.small (subst₂ ◌≼◌ (*_comm (nat m) (gain k))
    (ap (λ z. nat m ⋆ z) (sym (units-value (units_of k) (below (leb k most_roundings) (leb→le k most_roundings)))))
    (≼-times (nat m) (nn_frac m 0) (in_units (leb k most_roundings) (leb→le k most_roundings)))))
  where
    in_units : (b : Bool) → (T b → k ≤ most_roundings) → gain k ≼ nat (cond b (k + 1) (2 * k)) ⋆ ε
    in_units true l = gain_bound k (l tt)
    in_units false l = gain-double k (le_of_lt h)

    few : (k m g : ℕ) → m + 2 ≤ g → k ≤ m → k + 1 < g
    few k m g a b = omega arith

    twice : (k m g : ℕ) → 2 * m ≤ g → k < m → 2 * k < g
    twice k m g a b = omega arith

    below : (b : Bool) → (T b → k ≤ most_roundings) → cond b (k + 1) (2 * k) < 2 ^ 53
    below true l = few k most_roundings (2 ^ 53) (lit≤ tt) (l tt)
    below false l = twice k (2 ^ 52) (2 ^ 53) (lit≤ tt) h

-- ---- no configuration: nothing is summed

no_sum : (n : ℕ) → sum ieee n (λ i. ieee.𝟘) ≡ ieee.𝟘
unfolding sum add round
no_sum zero = refl
no_sum (suc n) = ap (λ x. add binary64 x ieee.𝟘) (no_sum n) ∙ refl

no_exact_sum : (n : ℕ) → sum rational n (λ i. zeroℚ) ≡ zeroℚ
unfolding sum
no_exact_sum zero = refl
no_exact_sum (suc n) = ap (λ x. x ⊹ zeroℚ) (no_exact_sum n) ∙ +_zero zeroℚ

module _ (n m : ℕ) (x : ℕ → ℕ → Float) (e : ℕ → ℕ → ℚ) (none : n * m ≡ 0) where
  nothing : (value (chunked ieee n m x) ≡ zeroℚ) × (chunked rational n m e ≡ zeroℚ)
  unfolding chunked sum value
  nothing = go n m none
    where
      go : (n m : ℕ) → n * m ≡ 0
          → (value (sum ieee n (λ i. sum ieee m (x i))) ≡ zeroℚ) × (sum rational n (λ i. sum rational m (e i)) ≡ zeroℚ)
      go zero m h = (refl, refl)
      go (suc n) zero h = (ap value (no_sum (suc n)), no_exact_sum (suc n))
      go (suc n) (suc m) h = absurd (omega arith)

  nothing_apart : (r : ℚ) → NonNeg r → Apart (value (chunked ieee n m x)) (chunked rational n m e) r
  nothing_apart r h =
      let z = nothing in
      apart_of _ _ zeroℚ r (z.0 ∙ sym z.1 ∙ sym (+_zero _)) (within_zero r h)

-- ---- totals within their bounds, for chunks and samples as many as a call may have

module _ (k n m : ℕ) (c : ℕ → ℕ → Float) (t : ℕ → ℕ → ℚ) (short : k ≤ 2 ^ 26) (few : n * m ≤ 2 ^ 34)
    (near : (i j : ℕ) → i < n → j < m → Close k (c i j) (t i j) oneℚ) (inside : (i j : ℕ) → i < n → j < m → Under (c i j) unit) where
  many : n * m ≤ 2 ^ 53
  many = le_trans few (lit≤ tt)

  in_all : 1 ≤ n → 1 ≤ m → m + n ≤ 2 ^ 34 + 1
  in_all a b = go n m (2 ^ 34) a b few
    where
      go : (n m g : ℕ) → 1 ≤ n → 1 ≤ m → n * m ≤ g → m + n ≤ g + 1
      go (suc n) (suc m) g a b h = omega arith
      go zero m g a b h = absurd (omega arith)
      go (suc n) zero g a b h = absurd (omega arith)

  low : (r a : ℕ) → r ≤ 4 * k + 4 + a → a ≤ 2 ^ 34 + 1 → r < 2 ^ 52
  low r a h l = go r a k (2 ^ 26) (2 ^ 34) (2 ^ 52) (lit≤ tt) h l short
    where
      go : (r a k s g b : ℕ) → 4 * s + g + 6 ≤ b → r ≤ 4 * k + 4 + a → a ≤ g + 1 → k ≤ s → r < b
      go r a k s g b q h l d = omega arith

  both : 0 < n * m → (1 ≤ n) × (1 ≤ m)
  both = go n m
    where
      go : (n m : ℕ) → 0 < n * m → (1 ≤ n) × (1 ≤ m)
      go zero m h = absurd (omega (arith, zero-mul m))
      go (suc n) zero h = absurd (omega arith)
      go (suc n) (suc m) h = (omega arith, omega arith)

  total-apart : (r : ℕ) (x : ℕ → ℕ → Float) (e : ℕ → ℕ → ℚ) → r ≤ 4 * k + 3 + (m + n)
      → (1 ≤ m → Close r (chunked ieee n m x) (chunked rational n m e) (nat (n * m)))
      → Apart (value (chunked ieee n m x)) (chunked rational n m e) (nat (n * m) ⋆ value (total_bound r))
  total-apart r x e l close = go (dec_lt 0 (n * m))
    where
      go : Dec (0 < n * m) → Apart (value (chunked ieee n m x)) (chunked rational n m e) (nat (n * m) ⋆ value (total_bound r))
      go (yes h) =
          let some = both h in
          close-total r (n * m) _ _ (low r (m + n) (omega arith) (in_all some.0 some.1)) (close some.1)
      go (no h) =
          let none : n * m ≡ 0 = omega arith in
          nothing_apart n m x e none _ (subst NonNeg (sym (ap (λ (z : ℕ). nat z ⋆ value (total_bound r)) none ∙ zero_* (value (total_bound r)))) nn_zero)

  -- and within their bounds.
  pub squares-apart : Apart (value (chunked ieee n m (λ i j. square ieee (c i j)))) (chunked rational n m (λ i j. square rational (t i j)))
      (nat (n * m) ⋆ value (total_bound (squares_roundings k n m)))
  squares-apart =
      total-apart (squares_roundings k n m) _ _ (omega arith)
      (λ some.
      let e : suc (k + k) + m + n ≡ squares_roundings k n m = omega arith in
      subst (λ (r : ℕ). Close r (chunked ieee n m (λ i j. square ieee (c i j))) (chunked rational n m (λ i j. square rational (t i j))) (nat (n * m))) e
      (squares-close k n m c t some many near inside))

  pub fourths-apart : Apart (value (chunked ieee n m (λ i j. fourth ieee (c i j)))) (chunked rational n m (λ i j. fourth rational (t i j)))
      (nat (n * m) ⋆ value (total_bound (fourths_roundings k n m)))
  fourths-apart =
      total-apart (fourths_roundings k n m) _ _ (omega arith)
      (λ some.
      let e : suc (suc (k + k) + suc (k + k)) + m + n ≡ fourths_roundings k n m = omega arith in
      subst (λ (r : ℕ). Close r (chunked ieee n m (λ i j. fourth ieee (c i j))) (chunked rational n m (λ i j. fourth rational (t i j))) (nat (n * m))) e
      (fourths-close k n m c t some many near inside))

  -- The mean of the squares, where something is counted.
  pub mean-apart : 0 < n * m
      → Apart (value (div binary64 (chunked ieee n m (λ i j. square ieee (c i j))) (whole binary64 (n * m))))
      (chunked rational n m (λ i j. square rational (t i j)) ⋆ invℚ (nat (n * m))) (value (total_bound (squares_roundings k n m + 1)))
  mean-apart h =
      let some = both h in
      let r = squares_roundings k n m + 1 in
      let e : suc (suc (k + k) + m + n) ≡ r = omega arith in
      let mean = div binary64 (chunked ieee n m (λ i j. square ieee (c i j))) (whole binary64 (n * m)) in
      let exact = chunked rational n m (λ i j. square rational (t i j)) ⋆ invℚ (nat (n * m)) in
      subst (λ (z : ℚ). Apart (value mean) exact z) (one-* (value (total_bound r)))
      (close-total r 1 mean exact (low r (m + n) (omega arith) (in_all some.0 some.1))
      (subst (λ (r : ℕ). Close r mean exact oneℚ) e (mean-close k n m c t some.1 many near inside some.0)))
