-- Squares and fourth powers of correlations in [-1, 1], summed chunk by chunk and counted.
use Rattle.std.specs.Prelude.{◌≡◌, Bool, true, false, not, ℕ, ◌+◌, ◌*◌, ◌-◌, ◌/◌, ◌^◌, ◌≤◌, ◌<◌, T, leb, Float}
use Rattle.std.proofs.Common.{ap, ◌∙◌, le_refl, le_of_lt, mul-le-mul_right, arith, leb→le, pow_mono, pow-add}
use Rattle.std.proofs.Math.Nat.{min-eq_left, min-eq_right}
use Rattle.std.proofs.Math.Dec.{nleb→lt}
use Rattle.std.proofs.lemmas.Nat.{shl-shr}
use Rattle.std.specs.Float.{binary64}
use Rattle.rounding.specs.Under.{unit}
use Rattle.rounding.specs.Laws.Under.{Under}
use Rattle.rounding.proofs.Laws.Sums.{Each}
use Rattle.rounding.specs.Powers.{Ordered}
use Rattle.rounding.proofs.Laws.Powers.{ordered, chunked_equal}
use Rattle.transfer_matrix.specs.Rounded.{ieee}
use Rattle.transfer_matrix.specs.Totals.{chunk_size, chunk_count, square, fourth, chunked}
use Rattle.bounds.proofs.Laws.Pairs.{sum_is}

pub chunked-ordered : (n m : ℕ) (c : ℕ → ℕ → Float) → n * m ≤ 2 ^ 53 → Each n (λ i. Each m (λ j. Under (c i j) unit))
    → Ordered binary64 (chunked ieee n m (λ i j. fourth ieee (c i j))) (chunked ieee n m (λ i j. square ieee (c i j))) (n * m)
unfolding chunked
chunked-ordered n m c l h = simp sum_is (ordered binary64 l (chunked_equal binary64 c m n l h))

-- A power of two is a multiple of each that is not larger.
split : (n k : ℕ) → k ≤ n → 2 ^ n / 2 ^ k * 2 ^ k ≡ 2 ^ n
split n k h =
    let e : n ≡ n - k + k = omega arith in
    let p = ap (λ x. 2 ^ x) e ∙ pow-add 2 (n - k) k in
    rw p (ap (λ x. x * 2 ^ k) (shl-shr (2 ^ (n - k)) k))

-- The chunks of an enumeration hold all of it.
pub chunks_cover : (free : ℕ) → chunk_count free * chunk_size free ≡ 2 ^ free
chunks_cover free = go (leb free 10) (leb→le free 10) (nleb→lt free 10)
  where
    go : (b : Bool) → (T b → free ≤ 10) → (T (not b) → 10 < free) → chunk_count free * chunk_size free ≡ 2 ^ free
    go true l g = rw (min-eq_right (pow_mono (l tt))) (split free free (le_refl free))
    go false l g = rw (min-eq_left (pow_mono (le_of_lt (g tt)))) (split free 10 (le_of_lt (g tt)))

pub configuration_lt : (free i j : ℕ) → i < chunk_count free → j < chunk_size free → i * chunk_size free + j < 2 ^ free
configuration_lt free i j h k = omega (arith, mul-le-mul_right (chunk_size free) h, chunks_cover free)
