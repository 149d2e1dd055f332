-- The forward sweep, as a sweep that stays in the normal range where it has room.
use Rattle.std.specs.Prelude.{◌≡◌, refl, Float}
use Rattle.std.proofs.Common.{sym, ◌∙◌, arith, pow_pos}
use Rattle.std.proofs.Math.Path.{subst}
use Prim.Native.Nat.{ℕ, zero, suc, ◌+◌, ◌-◌, ◌%◌, ◌^◌, ◌≤◌, ◌<◌, ◌*◌}
use Rattle.std.proofs.Math.Dec.{T}
use Rattle.std.proofs.Math.ListN.{length}
use Rattle.std.specs.Float.Ieee.{binary64, add, mul, div}
use Rattle.std.specs.Float.Ieee.Positive.{positive}
use Rattle.std.specs.Float.Ieee.Scale.{finite}
use Rattle.rounding.proofs.Laws.Sign.{mul_finite}
use Rattle.rounding.specs.Laws.Sign.{not_minus}
use Rattle.rounding.specs.Under.{unit}
use Rattle.fraction.proofs.Fraction.{ℚ, oneℚ, Posℚ}
use Rattle.list_laws.proofs.Laws.Tabulate.{tabulate-length}
use Rattle.transfer_matrix.specs.Checked.{Checked}
use Rattle.transfer_matrix.specs.Job.{Job, step_of}
use Rattle.transfer_matrix.specs.Rounded.{ieee}
use Rattle.transfer_matrix.specs.Sweep.{at, start, up, ep, em, forward_step, before_step, forward, scale, Z}
use Rattle.exactness.proofs.Laws.Entries as E
use Rattle.exactness.specs.Exact.{rational}
use Rattle.bounds.proofs.Laws.Factors.{EdgesNotMinus, checked-not_minus}
use Rattle.bounds.proofs.Bounds.{forward-finite}
use Rattle.bounds.proofs.Laws.Steps.{Finite, start_beneath}
use Rattle.bounds.proofs.Laws.Sweeps.{forward_beneath}
use Rattle.accuracy.specs.Ring.{NonNeg}
use Rattle.accuracy.proofs.Laws.Ring.{◌≼◌, nn_pos}
use Rattle.accuracy.proofs.Laws.Powers.{θ, θ_nn, θ-one}
use Rattle.accuracy.proofs.Laws.Factors.{ModerateStep, step-roundings}
use Rattle.accuracy.proofs.Laws.ExactSweeps.{ahead, before, ahead_pos}
use Rattle.accuracy.proofs.Laws.Sweeps.{before-near, ClearAhead}
use Rattle.accuracy.proofs.Laws.Spread as S
use Rattle.accuracy.proofs.Laws.Levels.{ahead-level, Settled}
use Rattle.accuracy.proofs.Laws.Room.{Room}
use Rattle.accuracy.proofs.Laws.Course.{Course, Reached, reach}
use Rattle.accuracy.proofs.Laws.Phases.{phase, phase-most, phase-next}

module _ (J : Job Float) (ok : Checked (λ x. T (positive x)) J) (β : ℚ) (β_nn : NonNeg β) (β-one : β ≼ oneℚ) (moderate : (t : ℕ) → ModerateStep β (step_of J t))
    (p : ℕ) (few : (t : ℕ) → length (step_of J t).others ≤ p) (v : ℕ) (Z_fin : T (finite (Z ieee J v))) where
  abbrev w : ℕ
  w = J.window

  fair : EdgesNotMinus J.edges
  fair = checked-not_minus J ok

  -- Z is finite, so each vector up to v is finite; none has an entry with a minus sign; and each scale is finite.
  ahead-finite : (t : ℕ) → t ≤ suc v → Finite w (before_step ieee J t).0
  unfolding before_step forward
  ahead-finite zero l j b = subst (λ (x : Float). T (finite x)) (sym (E.start-at ieee w j b)) tt
  ahead-finite (suc t) l j b = forward-finite J ok v t (omega arith) Z_fin j b

  ahead-signs : (t j : ℕ) → j < 2 ^ w → T (not_minus (at ieee (before_step ieee J t).0 j))
  unfolding before_step forward
  ahead-signs zero j l = (start_beneath w j).sign
  ahead-signs (suc t) j l = (forward_beneath J fair t j).sign

  ahead-scale : (t : ℕ) → t < suc v → T (finite (div binary64 unit (before_step ieee J t).1))
  unfolding before_step up scale
  ahead-scale t l =
      let s = step_of J t in
      let sc = scale ieee J t in
      let x = (before_step ieee J t).0 in
      let f = ahead-finite (suc t) (omega arith) 0 (pow_pos w) in
      let made = E.forward-at ieee s sc w x 0 (pow_pos w) ∙ E.forward_even ieee s sc w (at ieee x) 0 in
      let g = subst (λ (z : Float). T (finite z)) made f in
      let u = (mul_finite binary64 (add binary64 (mul binary64 (ep ieee s.left) (at ieee x 0))
      (mul binary64 (em ieee s.left) (at ieee x (2 ^ (w - 1) + 0)))) (E.up_at ieee s sc 0) g).1 in
      (mul_finite binary64 _ sc u).1

  lengths-ahead : (t : ℕ) → length (before_step ieee J t).0 ≡ 2 ^ w
  unfolding before_step start forward_step
  lengths-ahead zero = tabulate-length _ (2 ^ w)
  lengths-ahead (suc t) = tabulate-length _ (2 ^ w)

  -- The forward sweep up to v.
  course_ahead : Course w ok.window β β_nn β-one p (p + 5) (suc v)
  unfolding before before_step ahead scale
  course_ahead = record {
    m = λ i. length (step_of J i).others;
    few = few;
    v = λ i. (before_step ieee J i).0;
    L = λ i. (before_step ieee J i).1;
    M = λ i j. at rational (before J i) j;
    phase = λ t. phase J.manner (t % 4);
    M_nn = S.before_nn J ok.window β β_nn β-one moderate p few;
    apart = S.before_spread J ok.window β β_nn β-one moderate p few;
    phases = λ t. phase-most J.manner (t % 4) (omega arith);
    start-M = λ j l. E.start-at rational w j l;
    start-L = refl;
    step =
        λ t s level. ahead-level w ok.window (θ β p) (θ_nn β β_nn β-one p) (θ-one β β_nn β-one p) (ahead J t) (nn_pos _ (ahead_pos J t))
        (at rational (before J t)) (at rational (before J (suc t)))
        (S.before_nn J ok.window β β_nn β-one moderate p few t) s level (S.before-mix J ok.window β β_nn β-one moderate p few t);
    next = λ t. phase-next J.manner 3 t (t % 4) (suc t % 4) _ (λ h. omega (arith, h));
    lengths = lengths-ahead;
    entries = λ t l j b. record { is_finite = ahead-finite t l j b; sign = ahead-signs t j b };
    finite-scale = ahead-scale;
    near = λ t l scales steps. before-near J β β_nn β-one ok.window moderate (p + 5) (step-roundings J p few) t (record { scales = scales; steps = steps })
        (ahead-finite t l);
  }

  module _ (room : Room β p w) (β-pos : Posℚ β) (short : suc v * (p + 5) ≤ 2 ^ 26) where
    reached : Reached w ok.window β β_nn β-one p room β-pos (p + 5) (suc v) short course_ahead (suc v)
    reached = reach w ok.window β β_nn β-one p room β-pos (p + 5) (suc v) short course_ahead (suc v) (omega arith)

    -- No step leaves the normal range,
    pub ahead-clear : ClearAhead J β β_nn β-one ok.window moderate (p + 5) (step-roundings J p few) (suc v)
    unfolding course_ahead ahead scale
    ahead-clear = record { scales = reached.scales; steps = reached.steps }

    -- and the last vector is a few steps after a rescaling.
    pub ahead-settled : Settled (2 ^ w) (θ β p) (at rational (before J (suc v)))
    unfolding course_ahead
    ahead-settled = reached.settled
