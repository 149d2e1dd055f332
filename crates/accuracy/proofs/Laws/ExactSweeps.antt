-- The sweeps in fractions, at the numbers that the rounded sweeps' scales stand for. The textbook's ratio does not depend on the scales.
use Rattle.std.specs.Prelude.{◌≡◌, refl, Bool, true, false, cond, List, Float}
use Rattle.std.proofs.Common.{◌∙◌}
use Rattle.std.proofs.Math.Path.{ap}
use Prim.Native.Nat.{ℕ, zero, suc, ◌-◌, ◌<◌}
use native.Mathlib.Omega.{arith}
use Rattle.std.specs.Float.Ieee.{binary64, div}
use Rattle.rounding.specs.Under.{unit}
use Rattle.fraction.proofs.Fraction.{ℚ, oneℚ, posℚ, Posℚ}
use Rattle.fraction.proofs.Laws.Fraction.{pos_one}
use Rattle.fraction.proofs.Value.{value}
use Rattle.transfer_matrix.specs.Job.{Job, step_of}
use Rattle.transfer_matrix.specs.Rounded.{ieee}
use Rattle.transfer_matrix.specs.Sweep.{start, forward_step, backward_step, after_steps, scale}
use Rattle.exactness.proofs.Laws.Algebra.{Pos}
use Rattle.exactness.proofs.AnyScales.{Scaled}
use Rattle.exactness.specs.Exact.{rational, at_values}
use Rattle.accuracy.proofs.Laws.Ring.{◌⊹◌, neg_zero, +_zero}

-- A number above zero, or one: no scale of the exact sweeps is another.
abbrev pub positively : ℚ → ℚ
positively q = cond (posℚ q) q oneℚ

pub positively_pos : (q : ℚ) → Posℚ (positively q)
positively_pos q = go (posℚ q) refl
  where
    go : (b : Bool) → posℚ q ≡ b → Posℚ (cond b q oneℚ)
    go true e = e
    go false e = pos_one

pub positively-is : (q : ℚ) → Posℚ q → q ≡ positively q
positively-is q h = rw h

module _ (J : Job Float) where
  -- The scales of the rounded sweeps, as fractions: of the forward step at t, and after i backward steps.
  unfoldable pub ahead : ℕ → ℚ
  ahead t = positively (value (scale ieee J t))

  unfoldable pub back : ℕ → ℚ
  back i = positively (value (div binary64 unit (after_steps ieee J i).1))

  -- The exact vectors: before the forward step at t, and after i backward steps.
  unfoldable pub before : ℕ → List ℚ
  before zero = start rational J.window
  before (suc t) = forward_step rational J.window (step_of (at_values J) t) (ahead t) (before t)

  unfoldable pub after : ℕ → List ℚ
  after zero = start rational J.window
  after (suc i) = backward_step rational J.window (step_of (at_values J) (J.last - i)) (back i) (after i)

  pub ahead_pos : (t : ℕ) → Posℚ (ahead t)
  unfolding ahead
  ahead_pos t = positively_pos (value (scale ieee J t))

  pub back_pos : (n : ℕ) → Posℚ (back n)
  unfolding back
  back_pos n = positively_pos (value (div binary64 unit (after_steps ieee J n).1))

  -- The exact forward and backward vectors at vertex t, and the scale of the backward step to it.
  abbrev pub exact_forward : ℕ → List ℚ
  exact_forward t = before (suc t)

  abbrev pub exact_backward : ℕ → List ℚ
  exact_backward t = after (J.last - t)

  abbrev pub exact_back : ℕ → ℚ
  exact_back t = back (J.last - t)

  pub above : (q : ℚ) → Posℚ q → Pos rational q
  above q h = ap posℚ (ap (λ x. q ⊹ x) neg_zero ∙ +_zero q) ∙ h

  -- They follow the steps of the job in fractions, at scales above zero.
  pub exact_sweeps : Scaled rational (at_values J) exact_forward ahead exact_backward exact_back
  unfolding before after ahead back
  exact_sweeps = record {
    first = refl;
    later = λ t. refl;
    final = let e : J.last - J.last ≡ 0 = omega arith in ap after e;
    earlier = earlier;
    forward-positive = λ t. above _ (positively_pos (value (scale ieee J t)));
    backward-positive = λ t. above _ (positively_pos (value (div binary64 unit (after_steps ieee J (J.last - t)).1)));
  }
    where
      earlier : (t : ℕ) → t < J.last
          → after (J.last - t) ≡ backward_step rational J.window (step_of (at_values J) (suc t)) (back (J.last - suc t)) (after (J.last - suc t))
      earlier t l =
          let e : J.last - t ≡ suc (J.last - suc t) = omega arith in
          let i : J.last - (J.last - suc t) ≡ suc t = omega arith in
          ap after e ∙ ap (λ (n : ℕ). backward_step rational J.window (step_of (at_values J) n) (back (J.last - suc t)) (after (J.last - suc t))) i
