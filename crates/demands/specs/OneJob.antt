-- What demands 2 and 3 say of one job and its pairs, a record each; and that a job has both if it passes the checks and every pair's Z is finite
-- and above zero.
use Rattle.std.specs.Prelude.{◌≡◌, false, List, ℕ, ◌+◌, ◌-◌, ◌^◌, ◌≤◌, ◌<◌, T, Float, length, get_or}
use Rattle.std.specs.Float.Ieee.{neg, le}
use Rattle.std.specs.Float.Ieee.Positive.{positive}
use Rattle.rounding.specs.Sign.{abs}
use Rattle.rounding.specs.Under.{unit}
use Rattle.fraction.proofs.Fraction.{Posℚ}
use Rattle.transfer_matrix.specs.Job.{Job}
use Rattle.transfer_matrix.specs.Room.{earlier, later}
use Rattle.transfer_matrix.specs.Rounded.{ieee}
use Rattle.transfer_matrix.specs.Sweep as S
use Rattle.transfer_matrix.specs.Checked.{Checked}
use Rattle.exactness.specs.Exact.{rational, at_values}
use Rattle.exactness.proofs.Literal.{literal_forward, literal_propagated, literal_z, literal_answer}
use Rattle.exactness.specs.Textbook.{partition_sum, textbook}
use Rattle.pair_correlations.specs.Sound.{unsound}
use Rattle.half_vectors.specs.Symmetric.{SymmetricHalf}
use Rattle.half_vectors.specs.Antisymmetric.{AntisymmetricHalf}

-- From -1 to 1.
pub record InUnit (x : Float) : Type 0 where
  pub above : T (le (neg unit) x)
  pub below : T (le x unit)

-- Demand 2, at the numbers that the factors stand for, each operation exact.
pub record Exact (J : Job Float) (us vs : List ℕ) : Type 0 where
  -- The definition gives the textbook ratio,
  pub ratio : (i : ℕ) → i < length us
      → S.answer rational (at_values J) (get_or us i 0) (get_or vs i 0) ≡ textbook rational (at_values J) (get_or us i 0) (get_or vs i 0)
  -- which divides by a sum above zero;
  pub divisor : Posℚ (partition_sum rational (at_values J))
  -- and so does the definition that takes no step at vertex 0.
  pub literal-ratio : (i : ℕ) → i < length us
      → literal_answer rational (at_values J) (get_or us i 0) (get_or vs i 0) ≡ textbook rational (at_values J) (get_or us i 0) (get_or vs i 0)

-- Demand 3, of the definition with each operation rounded, and of the halves of vectors that the room holds.
pub record Bounded (J : Job Float) (us vs : List ℕ) : Type 0 where
  -- Each correlation lies in [-1, 1],
  pub correlation : (i : ℕ) → i < length us → InUnit (S.answer ieee J (get_or us i 0) (get_or vs i 0))
  -- no entry of a propagated vector exceeds the forward vector's in size, up to the vertex's last pair,
  pub propagated : (i : ℕ) → i < length us → (t j : ℕ) → earlier us vs i + t ≤ later us vs i → j < 2 ^ J.window
      → T (le (abs (S.at ieee (S.propagated ieee J (earlier us vs i) t) j)) (S.at ieee (S.forward ieee J (earlier us vs i + t)) j))
  -- and so it is of the lower halves g and f that stand for the two.
  pub half : (i : ℕ) → i < length us → (t j : ℕ) → earlier us vs i + t ≤ later us vs i → j < 2 ^ (J.window - 1)
      → (g f : ℕ → Float) → AntisymmetricHalf J.window g (S.propagated ieee J (earlier us vs i) t) → SymmetricHalf J.window f (S.forward ieee J (earlier us vs i + t))
      → T (le (abs (g j)) (f j))
  -- Where no step is taken at vertex 0, of each pair whose Z is then finite and above zero: the same.
  pub literal-correlation : (i : ℕ) → i < length us → T (positive (literal_z ieee J (later us vs i)))
      → InUnit (literal_answer ieee J (get_or us i 0) (get_or vs i 0))
  pub literal-propagated : (i : ℕ) → i < length us → T (positive (literal_z ieee J (later us vs i)))
      → (t j : ℕ) → earlier us vs i + t ≤ later us vs i → j < 2 ^ J.window
      → T (le (abs (S.at ieee (literal_propagated ieee J (earlier us vs i) t) j)) (S.at ieee (literal_forward ieee J (earlier us vs i + t)) j))

-- A job that passes the checks with its pairs, every pair's Z being finite and above zero.
pub record Sound (J : Job Float) (us vs : List ℕ) : Type 0 where
  pub checked : Checked (λ x. T (positive x)) J
  pub sums : unsound J us vs ≡ false
  pub apart : (i : ℕ) → i < length us → get_or us i 0 ≡ get_or vs i 0 → ⊥
  pub first-inside : (i : ℕ) → i < length us → get_or us i 0 ≤ J.last
  pub second-inside : (i : ℕ) → i < length us → get_or vs i 0 ≤ J.last
