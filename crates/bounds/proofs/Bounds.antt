-- What bounds the rounded vectors, answers and totals, with no tolerance and whatever overflows on the way.
-- Of a job only its factors matter, finite and above zero, and of a pair its Z, which is to be so too.
use Rattle.std.specs.Prelude.{◌≡◌, List, ℕ, suc, ◌+◌, ◌*◌, ◌-◌, ◌^◌, ◌≤◌, ◌<◌, min, max, T, Float}
use Rattle.std.proofs.Common.{le_trans, arith, pow_mono}
use Rattle.std.proofs.Math.Nat.{min-le_left, le-max_left}
use Rattle.std.specs.Float.Ieee.{binary64, neg, le}
use Rattle.std.specs.Float.Ieee.Scale.{finite}
use Rattle.std.specs.Float.Ieee.Positive.{positive, positive-finite}
use Rattle.rounding.specs.Sign.{abs}
use Rattle.rounding.specs.Laws.Sign.{not_minus}
use Rattle.rounding.specs.Under.{unit}
use Rattle.rounding.proofs.Laws.Under.{div_under, in_unit}
use Rattle.rounding.specs.Laws.Under.{Under}
use Rattle.rounding.proofs.Laws.Sums.{Each}
use Rattle.rounding.specs.Powers.{Ordered}
use Rattle.transfer_matrix.specs.Job.{Job}
use Rattle.transfer_matrix.specs.Checked.{Checked}
use Rattle.transfer_matrix.specs.Rounded.{ieee}
use Rattle.transfer_matrix.specs.Sweep.{at, forward, scale, backward, propagated, Z, N, answer}
use Rattle.transfer_matrix.specs.Totals.{chunk_size, chunk_count, enumerated_count, sampled_count, square, fourth, enumerated, sampled}
use Rattle.exactness.proofs.AnyScales.{propagated_of, ZOf, answer_of}
use Rattle.exactness.proofs.Laws.Own as Own
use Rattle.exactness.proofs.Literal.{literal_forward, literal_scale, literal_propagated, literal_z, literal_answer}
use Rattle.bounds.proofs.Laws.Factors.{checked-not_minus}
use Rattle.bounds.proofs.Laws.Steps.{Finite}
use Rattle.bounds.proofs.Laws.Sweeps.{Fair, own_fair, literal_fair, propagated_beneath, propagated_le, before-finite, earlier-finite}
use Rattle.bounds.proofs.Laws.Pairs.{N-under-Z, Z-finite}
use Rattle.bounds.proofs.Laws.Chunks.{chunked-ordered, chunks_cover, configuration_lt}

-- ---- vectors that follow the forward steps, at any scales without a minus sign
module _ {J : Job Float} {F : ℕ → List Float} {f : ℕ → Float} {B : ℕ → List Float} (fair : Fair J F f B) where
  -- A finite Z at v has finite forward vectors up to v.
  forward-finite-of : 1 ≤ J.window → (v t : ℕ) → t ≤ v → T (finite (ZOf ieee J F f B v)) → Finite J.window (F t)
  forward-finite-of wide v t l h =
      let e : t + (v - t) ≡ v = omega arith in
      earlier-finite fair wide t (v - t) (rw e (λ j b. (Z-finite fair v h j b).0))

  propagated-bounded-of : 1 ≤ J.window → (u v i j : ℕ) → T (positive (ZOf ieee J F f B v)) → u + i ≤ v → j < 2 ^ J.window
      → T (le (abs (at ieee (propagated_of ieee J F f B u i) j)) (at ieee (F (u + i)) j))
  propagated-bounded-of wide u v i j p l b =
      propagated_le fair u i j (forward-finite-of wide v (u + i) l (positive-finite (ZOf ieee J F f B v) p) j b)

  correlation-under-of : (u v : ℕ) → T (positive (ZOf ieee J F f B (max u v))) → Under (answer_of ieee J F f B u v) unit
  unfolding answer_of
  correlation-under-of u v p = div_under binary64 (N-under-Z fair (min u v) (max u v) (le_trans (min-le_left u v) (le-max_left u v))) p

-- ---- one job
module _ (J : Job Float) (checked : Checked (λ x. T (positive x)) J) where
  own : Fair J (forward ieee J) (scale ieee J) (backward ieee J)
  own = own_fair J (checked-not_minus J checked)

  pub forward-not_minus : (t j : ℕ) → T (not_minus (at ieee (forward ieee J t) j))
  forward-not_minus t j = (own.forwards t j).sign

  pub backward-not_minus : (t j : ℕ) → T (not_minus (at ieee (backward ieee J t) j))
  backward-not_minus t j = (own.backwards t j).sign

  pub numerator_under : (u v : ℕ) → u ≤ v → Under (N ieee J u v) (Z ieee J v)
  numerator_under u v l = rw (Own.N-same ieee J u v, Own.Z-same ieee J v) (N-under-Z own u v l)

  -- A finite Z at v has finite forward vectors up to v, and a finite backward vector at v.
  pub forward-finite : (v t : ℕ) → t ≤ v → T (finite (Z ieee J v)) → Finite J.window (forward ieee J t)
  forward-finite v t l h = forward-finite-of own checked.window v t l (rw (Own.Z-same ieee J v) at h)

  -- and a finite forward vector has a finite one before it
  pub forward-finite-before : (t : ℕ) → Finite J.window (forward ieee J (suc t)) → Finite J.window (forward ieee J t)
  forward-finite-before = before-finite own checked.window

  pub backward-finite : (v : ℕ) → T (finite (Z ieee J v)) → Finite J.window (backward ieee J v)
  backward-finite v h j b = (Z-finite own v (rw (Own.Z-same ieee J v) at h) j b).1

  pub propagated-under : (u i j : ℕ) → Under (at ieee (propagated ieee J u i) j) (at ieee (forward ieee J (u + i)) j)
  propagated-under u i j = rw (Own.propagated-same ieee J u i) (propagated_beneath own u i j)

  -- No entry of a propagated vector exceeds the forward vector's in size, up to the vertex's last pair.
  pub propagated-bounded : (u v i j : ℕ) → T (positive (Z ieee J v)) → u + i ≤ v → j < 2 ^ J.window
      → T (le (abs (at ieee (propagated ieee J u i) j)) (at ieee (forward ieee J (u + i)) j))
  propagated-bounded u v i j p l b =
      rw (Own.propagated-same ieee J u i) (propagated-bounded-of own checked.window u v i j (rw (Own.Z-same ieee J v) at p) l b)

  pub correlation-under : (u v : ℕ) → T (positive (Z ieee J (max u v))) → Under (answer ieee J u v) unit
  correlation-under u v p = rw (Own.answer-same ieee J u v) (correlation-under-of own u v (rw (Own.Z-same ieee J (max u v)) at p))

  -- An answer lies in [-1, 1].
  pub correlation-bounded : (u v : ℕ) → T (positive (Z ieee J (max u v)))
      → T (le (neg unit) (answer ieee J u v)) × T (le (answer ieee J u v) unit)
  correlation-bounded u v p = in_unit (correlation-under u v p)

  -- ---- where no step is taken at vertex 0: the same
  literal : Fair J (literal_forward ieee J) (literal_scale ieee J) (backward ieee J)
  literal = literal_fair J (checked-not_minus J checked)

  pub literal-propagated-bounded : (u v i j : ℕ) → T (positive (literal_z ieee J v)) → u + i ≤ v → j < 2 ^ J.window
      → T (le (abs (at ieee (literal_propagated ieee J u i) j)) (at ieee (literal_forward ieee J (u + i)) j))
  literal-propagated-bounded = propagated-bounded-of literal checked.window

  pub literal-correlation-bounded : (u v : ℕ) → T (positive (literal_z ieee J (max u v)))
      → T (le (neg unit) (literal_answer ieee J u v)) × T (le (literal_answer ieee J u v) unit)
  literal-correlation-bounded u v p = in_unit (correlation-under-of literal u v p)

-- ---- totals: the fourth powers' is at least zero, at most the squares', and that at most the count
pub enumerated-bounded : (free : ℕ) (c : ℕ → Float) → free ≤ 53 → Each (2 ^ free) (λ x. Under (c x) unit)
    → Ordered binary64 (enumerated ieee (fourth ieee) free c) (enumerated ieee (square ieee) free c) (enumerated_count free)
unfolding enumerated
enumerated-bounded free c l h =
    let fits : chunk_count free * chunk_size free ≤ 2 ^ 53 = rw chunks_cover (pow_mono l) in
    rw chunks_cover at
    (chunked-ordered (chunk_count free) (chunk_size free) (λ i j. c (i * chunk_size free + j)) fits
    (λ i a j b. h (i * chunk_size free + j) (configuration_lt free i j a b)))

-- The count is 0 where there is no chunk.
pub sampled-bounded : (from to samples : ℕ) (c : ℕ → ℕ → Float) → sampled_count from to samples ≤ 2 ^ 53
    → ((chunk sample : ℕ) → from ≤ chunk → chunk < to → sample < samples → Under (c chunk sample) unit)
    → Ordered binary64 (sampled ieee (fourth ieee) from to samples c) (sampled ieee (square ieee) from to samples c)
    (sampled_count from to samples)
unfolding sampled
sampled-bounded from to samples c l h =
    chunked-ordered (to - from) samples (λ i j. c (from + i) j) l (λ i a j b. h (from + i) j (omega arith) (omega arith) b)
