-- The vectors of the sweeps: no entry of a forward or backward vector has a minus sign. Of vectors that follow the forward steps with any
-- scales: a propagated vector stays under the forward vector, and a finite forward vector has finite ones before it.
use Rattle.std.specs.Prelude.{◌≡◌, refl, List, T, ltb, Float}
use Prim.Native.Nat.{ℕ, zero, suc, ◌+◌, ◌-◌, ◌^◌, ◌≤◌}
use Rattle.std.proofs.Math.Nat.{add-zero}
use Rattle.std.proofs.Common.{add-suc}
use Rattle.std.specs.Float.Ieee.{binary64, div, le}
use Rattle.std.specs.Float.Ieee.Scale.{finite}
use Rattle.rounding.specs.Sign.{abs}
use Rattle.rounding.proofs.Laws.Sign.{div_not_minus}
use Rattle.rounding.specs.Laws.Sign.{not_minus}
use Rattle.rounding.specs.Under.{unit}
use Rattle.rounding.proofs.Laws.Under.{under_le, under-nought, under_neg, abs-under, either_under}
use Rattle.list_laws.specs.Bits.{bit}
use Rattle.transfer_matrix.specs.Job.{Job, step_of}
use Rattle.transfer_matrix.specs.Rounded.{ieee}
use Rattle.transfer_matrix.specs.Sweep.{at, alternate, forward_step, sweep_forward, before_step, forward, scale}
use Rattle.transfer_matrix.specs.Sweep.{backward_step, sweep_backward, after_steps, backward}
use Rattle.exactness.proofs.AnyScales.{propagated_of}
use Rattle.exactness.proofs.Literal.{literally, literal_forward, literal_scale}
use Rattle.bounds.proofs.Laws.Factors.{EdgesNotMinus, StepNotMinus, step_of-not_minus}
use Rattle.bounds.proofs.Laws.Steps.{Beneath, Finite, tabulate-entry, start_beneath, forward_step_beneath, backward_step_beneath}
use Rattle.bounds.proofs.Laws.Steps.{stored-not_minus, forward_step-finite}

-- A sweep's vector and stored largest entry have no minus sign.
pub record SweptNotMinus (s : List Float × Float) : Type 0 where
  pub entries : Beneath s.0 s.0
  pub largest : T (not_minus s.1)

alternate_beneath : (w : ℕ) (v : List Float) → Beneath v v → Beneath (alternate ieee w v) v
unfolding alternate
alternate_beneath w v h j =
    let turned = either_under (bit 0 j) (under_neg (h j)) (h j) in
    rw (tabulate-entry _ (2 ^ w) j) (either_under (ltb j (2 ^ w)) turned (under-nought (at ieee v j) (h j).sign))

module _ (J : Job Float) (fair : EdgesNotMinus J.edges) where
  multipliers : (t : ℕ) (s : List Float × Float) → SweptNotMinus s → StepNotMinus (step_of J t) (div binary64 unit s.1)
  multipliers t s h = step_of-not_minus J fair t (div binary64 unit s.1) (div_not_minus binary64 unit s.1 tt h.largest)

  sweep_forward-not_minus : (t : ℕ) (s : List Float × Float) → SweptNotMinus s → SweptNotMinus (sweep_forward ieee J t s)
  unfolding sweep_forward
  sweep_forward-not_minus t s h =
      let c = div binary64 unit s.1 in
      let e = forward_step_beneath J.window (step_of J t) c (multipliers t s h) s.0 s.0 h.entries in
      record { entries = e; largest = stored-not_minus J.manner 3 t (forward_step ieee J.window (step_of J t) c s.0) e }

  sweep_backward-not_minus : (t : ℕ) (s : List Float × Float) → SweptNotMinus s → SweptNotMinus (sweep_backward ieee J t s)
  unfolding sweep_backward
  sweep_backward-not_minus t s h =
      let c = div binary64 unit s.1 in
      let e = backward_step_beneath J.window (step_of J t) c (multipliers t s h) s.0 s.0 h.entries in
      record { entries = e; largest = stored-not_minus J.manner 0 t (backward_step ieee J.window (step_of J t) c s.0) e }

  before_step-not_minus : (t : ℕ) → SweptNotMinus (before_step ieee J t)
  unfolding before_step
  before_step-not_minus zero = record { entries = start_beneath J.window; largest = tt }
  before_step-not_minus (suc t) = sweep_forward-not_minus t (before_step ieee J t) (before_step-not_minus t)

  after_steps-not_minus : (i : ℕ) → SweptNotMinus (after_steps ieee J i)
  unfolding after_steps
  after_steps-not_minus zero = record { entries = start_beneath J.window; largest = tt }
  after_steps-not_minus (suc i) = sweep_backward-not_minus (J.last - i) (after_steps ieee J i) (after_steps-not_minus i)

  pub forward_beneath : (t : ℕ) → Beneath (forward ieee J t) (forward ieee J t)
  unfolding forward
  forward_beneath t = (before_step-not_minus (suc t)).entries

  pub backward_beneath : (t : ℕ) → Beneath (backward ieee J t) (backward ieee J t)
  unfolding backward
  backward_beneath t = (after_steps-not_minus (J.last - t)).entries

-- ---- vectors that follow the forward steps, at any scales without a minus sign

-- F t and B t are forward and backward vectors at vertex t without a minus sign; the forward step at t takes the scale f t.
pub record Fair (J : Job Float) (F : ℕ → List Float) (f : ℕ → Float) (B : ℕ → List Float) : Type 0 where
  pub forwards : (t : ℕ) → Beneath (F t) (F t)
  pub backwards : (t : ℕ) → Beneath (B t) (B t)
  pub steps : (t : ℕ) → StepNotMinus (step_of J (suc t)) (f (suc t))
  pub stepped : (t : ℕ) → F (suc t) ≡ forward_step ieee J.window (step_of J (suc t)) (f (suc t)) (F t)

-- the definition's own
pub own_fair : (J : Job Float) → EdgesNotMinus J.edges → Fair J (forward ieee J) (scale ieee J) (backward ieee J)
unfolding forward scale
own_fair J fair = record {
  forwards = forward_beneath J fair;
  backwards = backward_beneath J fair;
  steps = λ t. multipliers J fair (suc t) (before_step ieee J (suc t)) (before_step-not_minus J fair (suc t));
  stepped = λ t. refl;
}

-- those of the literal reading, which takes no step at vertex 0
pub literal_fair : (J : Job Float) → EdgesNotMinus J.edges → Fair J (literal_forward ieee J) (literal_scale ieee J) (backward ieee J)
unfolding literally literal_forward literal_scale sweep_forward
literal_fair J fair = record {
  forwards = λ t. (literally-not_minus t).entries;
  backwards = backward_beneath J fair;
  steps = λ t. multipliers J fair (suc t) (literally ieee J t) (literally-not_minus t);
  stepped = λ t. refl;
}
  where
    literally-not_minus : (t : ℕ) → SweptNotMinus (literally ieee J t)
    literally-not_minus zero = record { entries = start_beneath J.window; largest = tt }
    literally-not_minus (suc t) = sweep_forward-not_minus J fair (suc t) (literally ieee J t) (literally-not_minus t)

module _ {J : Job Float} {F : ℕ → List Float} {f : ℕ → Float} {B : ℕ → List Float} (fair : Fair J F f B) where
  -- propagated vectors take the same steps, by the same scales
  pub propagated_beneath : (u i : ℕ) → Beneath (propagated_of ieee J F f B u i) (F (u + i))
  unfolding propagated_of
  propagated_beneath u zero = rw add-zero (alternate_beneath J.window (F u) (fair.forwards u))
  propagated_beneath u (suc i) =
      rw (add-suc u i, fair.stepped (u + i))
      (forward_step_beneath J.window (step_of J (suc (u + i))) (f (suc (u + i))) (fair.steps (u + i)) (propagated_of ieee J F f B u i) (F (u + i)) (propagated_beneath u i))

  -- By the comparisons of a program, where the forward entry is finite.
  pub propagated_le : (u i j : ℕ) → T (finite (at ieee (F (u + i)) j)) → T (le (abs (at ieee (propagated_of ieee J F f B u i) j)) (at ieee (F (u + i)) j))
  propagated_le u i j k = under_le (abs-under (propagated_beneath u i j)) k

  -- a finite vector came from finite ones
  pub before-finite : 1 ≤ J.window → (t : ℕ) → Finite J.window (F (suc t)) → Finite J.window (F t)
  before-finite wide t h = forward_step-finite J.window (step_of J (suc t)) (f (suc t)) (F t) wide (rw (fair.stepped t) at h)

  pub earlier-finite : 1 ≤ J.window → (t i : ℕ) → Finite J.window (F (t + i)) → Finite J.window (F t)
  earlier-finite wide t zero h = rw add-zero at h
  earlier-finite wide t (suc i) h = earlier-finite wide t i (before-finite wide (t + i) (rw add-suc at h))
