-- The tests, one by one.
use mathlib.Core.Path.{refl}
use mathlib.Core.Logic.{inl, inr}
use native.Mathlib.Omega.{arith}
use Rattle.sweep_backward.proofs.backward_last.Goals as goal

pub returns-then-elementwise : goal.returns-then-elementwise
returns-then-elementwise c = inl refl

pub returns-then-w-lt6 : goal.returns-then-w-lt6
returns-then-w-lt6 c = inl refl

pub returns-then-t-stop-lt2 : goal.returns-then-t-stop-lt2
returns-then-t-stop-lt2 c = inl refl

pub returns-then-t-eq0 : goal.returns-then-t-eq0
returns-then-t-eq0 c = inl refl

pub returns-then-backward_place-gt0 : goal.returns-then-backward_place-gt0
returns-then-backward_place-gt0 c = inl refl

pub returns : goal.returns
returns c =
    inr
    (record {
      next = omega arith;
      inside = omega arith;
      wide = omega arith;
      blocks = c.if-elementwise.false;
      due = c.if-t-eq0.false;
      passing = omega (arith, c.backward_place.ensures);
    })
