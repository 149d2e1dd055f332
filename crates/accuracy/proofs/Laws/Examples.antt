-- The theorem at a job: four vertices in a square, every factor 2, its opposite corners. And the bounds of some shapes as doubles.
use Rattle.std.specs.Prelude.{◌≡◌, refl, false, [], ◌∷◌, ℕ, ◌+◌, ◌-◌, ◌^◌, ◌≤◌, ◌<◌, T, pos, Float}
use Rattle.std.proofs.Common.{arith}
use Rattle.std.specs.Float.{fin}
use Rattle.std.specs.Float.Ieee.{round, add, sub, mul, div, neg, lt}
use Rattle.std.specs.Float.Ieee.Positive.{positive}
use Rattle.fraction.proofs.Fraction.{frac}
use Rattle.fraction.proofs.Value.{value}
use Rattle.transfer_matrix.specs.Checked.{Kept, Checked}
use Rattle.transfer_matrix.specs.Job.{Edge, Job, block, too_many_near}
use Rattle.transfer_matrix.specs.Rounded.{ieee}
use Rattle.transfer_matrix.specs.Sweep.{Z, answer}
use Rattle.exactness.specs.Exact.{rational, at_values}
use Rattle.exactness.specs.Textbook.{textbook}
use Rattle.accuracy.specs.Stated.{depth, units, error_bound}
use Rattle.accuracy.proofs.Apart.{Apart}
use Rattle.accuracy.proofs.Laws.Bound.{four, error-bound}

abbrev two : Float
two = fin false 1 (pos 1)

abbrev edge : ℕ → ℕ → Edge Float
edge a b = record { early = a; late = b; factor = two }

abbrev square : Job Float
square = record { last = 3; window = 2; edges = edge 0 1 ∷ edge 0 2 ∷ edge 1 3 ∷ edge 2 3 ∷ []; manner = block }

square-checked : Checked (λ x. T (positive x)) square
square-checked = record {
  window = omega arith;
  edges = (
    kept (omega arith) (omega arith) (omega arith),
    (
      kept (omega arith) (omega arith) (omega arith),
      (
        kept (omega arith) (omega arith) (omega arith),
        (kept (omega arith) (omega arith) (omega arith), tt),
      ),
    ),
  );
  apart = (
    (λ e. omega (arith, e.1), (λ e. omega (arith, e.0), (λ e. omega (arith, e.0), tt))),
    ((λ e. omega (arith, e.0), (λ e. omega (arith, e.0), tt)), ((λ e. omega (arith, e.0), tt), (tt, tt))),
  );
}
  where
    kept : {a b : ℕ} → a < b → b ≤ 3 → b ≤ a + 2 → Kept (λ x. T (positive x)) square (edge a b)
    kept o i r = record { ordered = o; inside = i; reached = r; passed = tt }

corners : Apart (value (answer ieee square 0 3)) (textbook rational (at_values square) 0 3) (value (error_bound 4 2 4))
unfolding too_many_near Z add sub mul div neg lt round
corners =
    error-bound square square-checked (omega arith) (omega arith) 4 (omega arith) (four square refl) 1 (tt, (tt, (tt, (tt, tt)))) (omega arith) 0 3
    (λ e. omega arith) (omega arith) (omega arith) tt

-- 86 / 2 ^ 53, about 10 ^ -14
square_bound : value (error_bound 4 2 4) ≡ frac 43 0 (2 ^ 52 - 1)
unfolding value units round
square_bound = refl

-- 1,024 vertices in a window of 10: 2.3 10 ^ -12
strip_bound : value (error_bound 1024 10 4) ≡ frac 10243 0 (2 ^ 52 - 1)
unfolding value units round
strip_bound = refl

-- Factors from 1/8 to 8, which are of couplings up to 2.07, have room in the widest window.
widest : depth 3 4 24 ≡ 921
widest = refl
