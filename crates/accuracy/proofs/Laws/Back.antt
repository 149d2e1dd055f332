-- The backward sweep, as a sweep that stays in the normal range where it has room.
use Rattle.std.specs.Prelude.{◌≡◌, refl, Float}
use Rattle.std.proofs.Common.{sym, ◌∙◌, lt-ltb, pow_pos}
use Rattle.std.proofs.Math.Path.{subst}
use Prim.Native.Nat.{ℕ, zero, suc, ◌+◌, ◌-◌, ◌%◌, ◌^◌, ◌≤◌, ◌<◌, ◌*◌}
use Rattle.std.proofs.Math.Nat.{zero-mod}
use native.Mathlib.Omega.{arith}
use Rattle.std.proofs.Math.Dec.{T}
use Rattle.std.proofs.Math.ListN.{length}
use Rattle.std.specs.Float.Ieee.{binary64, mul, div}
use Rattle.std.specs.Float.Ieee.Positive.{positive}
use Rattle.std.specs.Float.Ieee.Scale.{finite}
use Rattle.rounding.proofs.Laws.Sign.{mul_finite, add_finite}
use Rattle.rounding.specs.Laws.Sign.{not_minus}
use Rattle.rounding.specs.Under.{unit}
use Rattle.fraction.proofs.Fraction.{ℚ, oneℚ, Posℚ}
use Rattle.list_laws.proofs.Laws.Tabulate.{tabulate-length}
use Rattle.transfer_matrix.specs.Checked.{Checked}
use Rattle.transfer_matrix.specs.Job.{Job, step_of}
use Rattle.transfer_matrix.specs.Rounded.{ieee}
use Rattle.transfer_matrix.specs.Sweep.{at, start, up, ep, backward_step, after_steps, backward, Z}
use Rattle.exactness.proofs.Laws.Entries as E
use Rattle.exactness.specs.Exact.{rational}
use Rattle.bounds.proofs.Laws.Factors.{EdgesNotMinus, checked-not_minus}
use Rattle.bounds.proofs.Bounds.{backward-finite}
use Rattle.bounds.proofs.Laws.Steps.{Finite}
use Rattle.bounds.proofs.Laws.Sweeps.{backward_beneath}
use Rattle.accuracy.specs.Ring.{NonNeg}
use Rattle.accuracy.proofs.Laws.Ring.{◌≼◌, nn_pos}
use Rattle.accuracy.proofs.Laws.Powers.{θ, θ_nn, θ-one}
use Rattle.accuracy.proofs.Laws.Factors.{ModerateStep, step-roundings}
use Rattle.accuracy.proofs.Laws.Finite.{backward_step-finite}
use Rattle.accuracy.proofs.Laws.ExactSweeps.{after, back, back_pos}
use Rattle.accuracy.proofs.Laws.Sweeps.{after-near, ClearBack}
use Rattle.accuracy.proofs.Laws.Spread as S
use Rattle.accuracy.proofs.Laws.Levels.{back_level, Settled}
use Rattle.accuracy.proofs.Laws.Room.{Room}
use Rattle.accuracy.proofs.Laws.Course.{Course, Reached, reach}
use Rattle.accuracy.proofs.Laws.Phases.{phase, phase-most, phase-next}

module _ (J : Job Float) (ok : Checked (λ x. T (positive x)) J) (β : ℚ) (β_nn : NonNeg β) (β-one : β ≼ oneℚ) (moderate : (t : ℕ) → ModerateStep β (step_of J t))
    (p : ℕ) (few : (t : ℕ) → length (step_of J t).others ≤ p) (v : ℕ) (Z_fin : T (finite (Z ieee J v))) where
  abbrev w : ℕ
  w = J.window

  fair : EdgesNotMinus J.edges
  fair = checked-not_minus J ok

  -- One step further back the phase is one more, but after a rescaling.
  turn : (t t' : ℕ) → t' ≡ t - 1 → (t % 4 ≡ 0 → ⊥) → 3 - t' % 4 ≡ suc (3 - t % 4)
  turn t t' e z = omega (arith, z)

  -- A finite vector has finite ones before it in the sweep.
  after-finite : (d i : ℕ) → Finite w (after_steps ieee J (d + i)).0 → Finite w (after_steps ieee J i).0
  unfolding after_steps
  after-finite zero i h = let e : 0 + i ≡ i = omega arith in rw e at h
  after-finite (suc d) i h =
      let e : suc d + i ≡ suc (d + i) = omega arith in
      after-finite d i (backward_step-finite w (step_of J (J.last - (d + i))) (div binary64 unit (after_steps ieee J (d + i)).1)
      (after_steps ieee J (d + i)).0 ok.window (rw e at h))

  -- Z is finite, so each vector down to v is finite; none has an entry with a minus sign; and each scale is finite.
  back-finite : (i : ℕ) → i ≤ J.last - v → Finite w (after_steps ieee J i).0
  unfolding backward
  back-finite i l =
      let e : J.last - v - i + i ≡ J.last - v = omega arith in
      after-finite (J.last - v - i) i (subst (λ (i : ℕ). Finite w (after_steps ieee J i).0) (sym e) (backward-finite J ok v Z_fin))

  back-signs : (i j : ℕ) → i ≤ J.last - v → T (not_minus (at ieee (after_steps ieee J i).0 j))
  unfolding backward
  back-signs i j l =
      let e : J.last - (J.last - i) ≡ i = omega arith in
      subst (λ (i : ℕ). T (not_minus (at ieee (after_steps ieee J i).0 j))) e (backward_beneath J fair (J.last - i) j).sign

  back-scale : (i : ℕ) → i < J.last - v → T (finite (div binary64 unit (after_steps ieee J i).1))
  unfolding after_steps up
  back-scale i l =
      let s = step_of J (J.last - i) in
      let sc = div binary64 unit (after_steps ieee J i).1 in
      let x = (after_steps ieee J i).0 in
      let f = back-finite (suc i) (omega arith) 0 (pow_pos w) in
      let made = E.backward-at ieee s sc w x 0 (pow_pos w)
      ∙ E.backward-low ieee s sc w (at ieee x) 0 0 (zero-mod (2 ^ (w - 1))) (lt-ltb 0 (2 ^ (w - 1)) (pow_pos (w - 1))) in
      let g = subst (λ (z : Float). T (finite z)) made f in
      let y = mul binary64 (at ieee x 0) (E.up_at ieee s sc 0) in
      let a = (add_finite binary64 (mul binary64 (ep ieee s.left) y) _ g).0 in
      let b = (mul_finite binary64 (ep ieee s.left) y a).1 in
      let u = (mul_finite binary64 (at ieee x 0) (E.up_at ieee s sc 0) b).1 in
      (mul_finite binary64 _ sc u).1

  lengths-back : (i : ℕ) → length (after_steps ieee J i).0 ≡ 2 ^ w
  unfolding after_steps start backward_step
  lengths-back zero = tabulate-length _ (2 ^ w)
  lengths-back (suc i) = tabulate-length _ (2 ^ w)

  -- The backward sweep from the last vertex to v.
  course_back : Course w ok.window β β_nn β-one p (p + 5) (J.last - v)
  unfolding after after_steps back
  course_back = record {
    m = λ i. length (step_of J (J.last - i)).others;
    few = λ i. few (J.last - i);
    v = λ i. (after_steps ieee J i).0;
    L = λ i. (after_steps ieee J i).1;
    M = λ i j. at rational (after J i) j;
    phase = λ i. phase J.manner (3 - (J.last - i) % 4);
    M_nn = S.after_nn J ok.window β β_nn β-one moderate p few;
    apart = S.after_spread J ok.window β β_nn β-one moderate p few;
    phases = λ i. phase-most J.manner (3 - (J.last - i) % 4) (omega arith);
    start-M = λ j l. E.start-at rational w j l;
    start-L = refl;
    step =
        λ t s level. back_level w ok.window (θ β p) (θ_nn β β_nn β-one p) (θ-one β β_nn β-one p) (back J t) (nn_pos _ (back_pos J t))
        (at rational (after J t)) (at rational (after J (suc t)))
        (S.after_nn J ok.window β β_nn β-one moderate p few t) s level (S.after-mix J ok.window β β_nn β-one moderate p few t);
    next = λ i. phase-next J.manner 0 (J.last - i) _ _ _ (turn (J.last - i) (J.last - suc i) (omega arith));
    lengths = lengths-back;
    entries = λ t l j b. record { is_finite = back-finite t l j b; sign = back-signs t j l };
    finite-scale = back-scale;
    near = λ t l scales steps. after-near J β β_nn β-one ok.window moderate (p + 5) (step-roundings J p few) t (record { scales = scales; steps = steps })
        (back-finite t l);
  }

  module _ (room : Room β p w) (β-pos : Posℚ β) (short : (J.last - v) * (p + 5) ≤ 2 ^ 26) where
    reached : Reached w ok.window β β_nn β-one p room β-pos (p + 5) (J.last - v) short course_back (J.last - v)
    reached = reach w ok.window β β_nn β-one p room β-pos (p + 5) (J.last - v) short course_back (J.last - v) (omega arith)

    -- No step leaves the normal range,
    pub back-clear : ClearBack J β β_nn β-one ok.window moderate (p + 5) (step-roundings J p few) (J.last - v)
    unfolding course_back back
    back-clear = record { scales = reached.scales; steps = reached.steps }

    -- and the last vector is a few steps after a rescaling.
    pub back-settled : Settled (2 ^ w) (θ β p) (at rational (after J (J.last - v)))
    unfolding course_back
    back-settled = reached.settled
