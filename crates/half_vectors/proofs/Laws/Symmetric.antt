-- Laws of what specs/Symmetric defines.
use Rattle.std.specs.Prelude.{◌≡◌, List, ℕ, ◌+◌, ◌*◌, ◌-◌, ◌/◌, ◌^◌, ◌≤◌, ◌<◌, Float}
use Rattle.std.proofs.Common.{sym, ◌∙◌}
use native.Mathlib.Omega.{arith}
use Rattle.list_laws.proofs.Laws.Power.{pow_double}
use Rattle.list_laws.proofs.Laws.Tabulate.{tabulate-at}
use Rattle.transfer_matrix.specs.Job.{Step}
use Rattle.transfer_matrix.specs.Rounded.{ieee}
use Rattle.transfer_matrix.specs.Sweep as S
use Rattle.half_vectors.proofs.Laws.Flip.{Below}
use Rattle.half_vectors.proofs.Laws.FlipInvariance.{Symmetric, start_symmetric, forward_symmetric, backward_symmetric, lower_flips}
use Rattle.half_vectors.proofs.Laws.Entries.{lower, upper, backward-low}
use Rattle.half_vectors.specs.Half.{there_and_back, forward_half, backward_half}
use Rattle.half_vectors.proofs.Laws.Half.{there, back, by_halves, backward_half-front, backward_half-end}
use Rattle.half_vectors.specs.Symmetric.{SymmetricHalf}

-- the lower half of a symmetric vector
pub symmetric_of : {w : ℕ} {h : ℕ → Float} {v : List Float} → 1 ≤ w → Symmetric w v → ((j : ℕ) → j < 2 ^ (w - 1) → S.at ieee v j ≡ h j) → SymmetricHalf w h v
symmetric_of {w} wide s e = record { low = e; high = λ j b. s.flipped j (omega (arith, pow_double w wide)) ∙ e j b }

-- a vector of a symmetric half is symmetric
pub whole_symmetric : {w : ℕ} {h : ℕ → Float} {v : List Float} → 1 ≤ w → SymmetricHalf w h v → Symmetric w v
whole_symmetric {w} {h} {v} wide e = record { flipped = by_halves w wide _ (λ j b. e.high j b ∙ sym (e.low j b)) high }
  where
    high : (j : ℕ) → j < 2 ^ (w - 1) → S.at ieee v (2 ^ w - 1 - (2 ^ w - 1 - j)) ≡ S.at ieee v (2 ^ w - 1 - j)
    high j b = let i : 2 ^ w - 1 - (2 ^ w - 1 - j) ≡ j = omega (arith, pow_double w wide) in rw i (e.low j b ∙ sym (e.high j b))

-- it reads only the half's own numbers
pub symmetric_ext : {w : ℕ} {h g : ℕ → Float} {v : List Float} → SymmetricHalf w h v → ((j : ℕ) → j < 2 ^ (w - 1) → g j ≡ h j) → SymmetricHalf w g v
symmetric_ext e same = record { low = λ j b. e.low j b ∙ sym (same j b); high = λ j b. e.high j b ∙ sym (same j b) }

-- every entry of the whole stands in the half, read there and back
pub symmetric_entry : {w : ℕ} {h : ℕ → Float} {v : List Float} → 1 ≤ w → SymmetricHalf w h v → (j : ℕ) → j < 2 ^ w → S.at ieee v j ≡ there_and_back w h j
symmetric_entry {w} {h} wide e =
    by_halves w wide _ (λ j b. e.low j b ∙ sym (there w wide h j b)) (λ j b. e.high j b ∙ sym (back w wide h j b))

-- all 1.0
pub start-half : (w : ℕ) → 1 ≤ w → SymmetricHalf w (λ j. ieee.𝟙) (S.start ieee w)
unfolding S.start
start-half w wide = symmetric_of wide (start_symmetric w) (λ j b. tabulate-at (λ j. ieee.𝟙) (2 ^ w) j ieee.𝟘 (omega (arith, pow_double w wide)))

-- ---- a step, in the window w with the scale sc, from the vector v of the symmetric half h

module _ (w : ℕ) (s : Step Float) (sc : Float) (h : ℕ → Float) (v : List Float) (wide : 1 ≤ w) (low : Below (w - 1) s.others) (symmetric : SymmetricHalf w h v) where
  whole : 2 ^ w ≡ 2 * 2 ^ (w - 1)
  whole = pow_double w wide

  -- the forward step goes from half to half
  pub forward-half : SymmetricHalf w (forward_half w s sc (λ x. x) h) (S.forward_step ieee w s sc v)
  unfolding S.forward_step S.forward_at forward_half
  forward-half =
      symmetric_of wide (forward_symmetric w s sc v wide low (whole_symmetric wide symmetric))
      (λ j b.
      let k = j / 2 in
      let i : 2 ^ w - 1 - (2 ^ (w - 1) - 1 - k) ≡ 2 ^ (w - 1) + k = omega (arith, whole) in
      let e : S.at ieee v (2 ^ (w - 1) + k) ≡ h (2 ^ (w - 1) - 1 - k) = rw i at (symmetric.high (2 ^ (w - 1) - 1 - k) (omega arith)) in
      tabulate-at (S.forward_at ieee w s sc (S.at ieee v)) (2 ^ w) j ieee.𝟘 (omega (arith, whole)) ∙ rw (symmetric.low k (omega arith), e))

  -- entries 2k and 2k + 1 stand in the half, where the window is 2 or more
  lower-same : (k : ℕ) → 2 * k + 1 < 2 ^ (w - 1) → lower w s sc (S.at ieee v) k ≡ lower w s sc h k
  lower-same k b = rw (symmetric.low (2 * k) (omega arith), symmetric.low (2 * k + 1) b)

  upper-same : (k : ℕ) → 2 * k + 1 < 2 ^ (w - 1) → upper w s sc (S.at ieee v) k ≡ upper w s sc h k
  upper-same k b = rw (symmetric.low (2 * k) (omega arith), symmetric.low (2 * k + 1) b)

  backward-entry : 2 ≤ w → (j : ℕ) → j < 2 ^ (w - 1) → lower w s sc (S.at ieee v) j ≡ backward_half w s sc h j
  backward-entry wider =
      let e : w - 1 - 1 ≡ w - 2 = omega arith in
      let z = pow_double (w - 1) (omega arith) in
      by_halves (w - 1) (omega arith) (λ j. lower w s sc (S.at ieee v) j ≡ backward_half w s sc h j)
      (λ k b. lower-same k (omega arith) ∙ sym (backward_half-front w s sc h k wider (rw e at b)))
      (λ k b.
      lower_flips w s sc v wide low (whole_symmetric wide symmetric) k (omega arith)
      ∙ upper-same k (omega arith)
      ∙ sym (backward_half-end w s sc h k wider (rw e at b)))

  -- so does the backward step
  pub backward-half : 2 ≤ w → SymmetricHalf w (backward_half w s sc h) (S.backward_step ieee w s sc v)
  unfolding S.backward_step
  backward-half wider =
      symmetric_of wide (backward_symmetric w s sc v wide low (whole_symmetric wide symmetric))
      (λ j b.
      tabulate-at (S.backward_at ieee w s sc (S.at ieee v)) (2 ^ w) j ieee.𝟘 (omega (arith, whole))
      ∙ backward-low w s sc (S.at ieee v) j b
      ∙ backward-entry wider j b)

  -- in a window of 1 the half's one entry stands for both
  pub backward-half-one : w ≡ 1 → SymmetricHalf w (λ j. lower w s sc (λ i. h 0) 0) (S.backward_step ieee w s sc v)
  unfolding S.backward_step
  backward-half-one e =
      let z : 2 ^ (w - 1) ≡ 1 = rw e in
      let one : 2 ^ w - 1 - 0 ≡ 1 = rw e in
      let high : S.at ieee v 1 ≡ h 0 = rw one at (symmetric.high 0 (omega arith)) in
      symmetric_of wide (backward_symmetric w s sc v wide low (whole_symmetric wide symmetric))
      (λ j b.
      let i : j ≡ 0 = omega arith in
      tabulate-at (S.backward_at ieee w s sc (S.at ieee v)) (2 ^ w) j ieee.𝟘 (omega (arith, whole))
      ∙ backward-low w s sc (S.at ieee v) j b
      ∙ rw (i, symmetric.low 0 (omega arith), high))
