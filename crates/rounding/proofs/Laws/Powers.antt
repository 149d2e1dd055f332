-- Laws of what specs/Powers defines.
use Rattle.std.proofs.Common.{◌∙◌, subst, le_trans, le_of_eq, mul-one}
use Rattle.std.specs.Prelude.{ℕ, ◌*◌, ◌^◌, ◌≤◌, ◌<◌, T, Float}
use Rattle.std.specs.Float.{Format, binary32, binary64}
use Rattle.std.specs.Float.Ieee.{prec, div, fits}
use Rattle.std.specs.Float.Ieee.Fits.{mul-fits}
use Rattle.rounding.proofs.Laws.Sign.{square-not_minus}
use Rattle.rounding.specs.Laws.Sign.{not_minus}
use Rattle.rounding.specs.Under.{unit}
use Rattle.rounding.proofs.Laws.Under.{unit-is, under_refl, under_trans, under-nought, under_le, mul_under, div_under}
use Rattle.rounding.specs.Laws.Under.{Under}
use Rattle.rounding.specs.Whole.{whole}
use Rattle.rounding.proofs.Laws.Whole.{mul_shrinks, whole-finite, whole-positive}
use Rattle.rounding.proofs.Laws.Sums.{Each, total, tally, tally_const, term_le_tally, total-not_minus, total-under, whole-under}
use Rattle.rounding.specs.Powers.{Ordered}
use Rattle.rounding.specs.Laws.Powers.{square, fourth}

unit-fits : (f : Format) → T (fits f unit)
unfolding fits
unit-fits binary32 = tt
unit-fits binary64 = tt

pub square-under : (f : Format) {c : Float} → Under c unit → Under (square f c) unit
square-under f u = under_trans (mul_under f u u) (mul_shrinks f (under_refl unit tt) (unit-fits f) tt)

pub fourth-under : (f : Format) {c : Float} → Under c unit → Under (fourth f c) (square f c)
fourth-under f {c} u = mul_shrinks f (square-under f u) (mul-fits f c c) (square-not_minus f c)

-- ---- q of fourth powers, s of squares, n terms: 0 ≤ q ≤ s ≤ n
pub record Chained (f : Format) (q s : Float) (n : ℕ) : Type 0 where
  pub sign : T (not_minus q)
  pub fourths : Under q s
  pub squares : Under s (whole f n)

pub ordered : (f : Format) {q s : Float} {n : ℕ} → n ≤ 2 ^ prec f → Chained f q s n → Ordered f q s n
ordered f {q} {s} {n} h c =
    let k = whole-finite f n h in
    let l = (c.squares.size k).is_finite in
    let m = (c.fourths.size l).is_finite in
    record { nonnegative = under_le (under-nought q c.sign) m; ascending = under_le c.fourths l; counted = under_le c.squares k }

pub chained_one : (f : Format) {c : Float} → Under c unit → Chained f (fourth f c) (square f c) 1
chained_one f {c} u = record {
  sign = square-not_minus f (square f c);
  fourths = fourth-under f u;
  squares = subst (λ (z : Float). Under (square f c) z) (unit-is f) (square-under f u);
}

-- sums of such, term by term
pub chained_total : (f : Format) (q s : ℕ → Float) (k : ℕ → ℕ) (n : ℕ) → tally k n ≤ 2 ^ prec f
    → Each n (λ j. Chained f (q j) (s j) (k j)) → Chained f (total f q n) (total f s n) (tally k n)
chained_total f q s k n l h = record {
  sign = total-not_minus f q n (λ j b. (h j b).sign);
  fourths = total-under f q s n (λ j b. (h j b).fourths);
  squares = whole-under f s k n l (λ j b. (h j b).squares);
}

-- one sum of m terms
pub chained_run : (f : Format) (c : ℕ → Float) (m : ℕ) → m ≤ 2 ^ prec f → Each m (λ j. Under (c j) unit)
    → Chained f (total f (λ j. fourth f (c j)) m) (total f (λ j. square f (c j)) m) m
chained_run f c m l h =
    let e = tally_const 1 m ∙ mul-one m in
    subst (λ (n : ℕ). Chained f (total f (λ j. fourth f (c j)) m) (total f (λ j. square f (c j)) m) n) e
    (chained_total f (λ j. fourth f (c j)) (λ j. square f (c j)) (λ _. 1) m (le_trans (le_of_eq e) l) (λ j b. chained_one f (h j b)))

-- ---- chunks: chunk i holds k i terms; each is summed from zero, and then their sums
abbrev pub chunks : Format → (Float → Float) → (ℕ → ℕ → Float) → (ℕ → ℕ) → ℕ → Float
chunks f g c k n = total f (λ i. total f (λ j. g (c i j)) (k i)) n

pub chunked : (f : Format) (c : ℕ → ℕ → Float) (k : ℕ → ℕ) (n : ℕ) → tally k n ≤ 2 ^ prec f
    → Each n (λ i. Each (k i) (λ j. Under (c i j) unit))
    → Chained f (chunks f (fourth f) c k n) (chunks f (square f) c k n) (tally k n)
chunked f c k n l h =
    chained_total f (λ i. total f (λ j. fourth f (c i j)) (k i)) (λ i. total f (λ j. square f (c i j)) (k i)) k n l
    (λ i b. chained_run f (c i) (k i) (le_trans (term_le_tally k n i b) l) (h i b))

-- n chunks of m terms each
pub chunked_equal : (f : Format) (c : ℕ → ℕ → Float) (m n : ℕ) → n * m ≤ 2 ^ prec f
    → Each n (λ i. Each m (λ j. Under (c i j) unit))
    → Chained f (chunks f (fourth f) c (λ _. m) n) (chunks f (square f) c (λ _. m) n) (n * m)
chunked_equal f c m n l h =
    subst (λ (t : ℕ). Chained f (chunks f (fourth f) c (λ _. m) n) (chunks f (square f) c (λ _. m) n) t) (tally_const m n)
    (chunked f c (λ _. m) n (le_trans (le_of_eq (tally_const m n)) l) h)

-- ---- a mean of n terms
pub mean-under : (f : Format) {s : Float} {n : ℕ} → 0 < n → n ≤ 2 ^ prec f → Under s (whole f n) → Under (div f s (whole f n)) unit
mean-under f {s} {n} p h u = div_under f u (whole-positive f n p h)
