-- The tests, one by one.
use mathlib.Core.Path.{refl}
use mathlib.Core.Logic.{inl, inr}
use native.Mathlib.Omega.{arith}
use Rattle.sweep_forward.proofs.forward_last.Goals as goal

pub returns-then-elementwise : goal.returns-then-elementwise
returns-then-elementwise c = inl refl

pub returns-then-w-lt6 : goal.returns-then-w-lt6
returns-then-w-lt6 c = inl refl

pub returns-then-t-n : goal.returns-then-t-n
returns-then-t-n c = inl refl

pub returns-then-t-eq3 : goal.returns-then-t-eq3
returns-then-t-eq3 c = inl refl

pub returns-then-forward_place-gt0 : goal.returns-then-forward_place-gt0
returns-then-forward_place-gt0 c = inl refl

pub returns : goal.returns
returns c =
    inr
    (record {
      next = refl;
      inside = omega arith;
      wide = omega arith;
      blocks = c.if-elementwise.false;
      due = c.if-t-eq3.false;
      passing = omega (arith, c.forward_place.ensures);
    })
