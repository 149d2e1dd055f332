-- The sweeps at exact fractions of whole numbers: their answer is the textbook ratio, also for a job of doubles read at what they stand for.
use Rattle.std.specs.Prelude.{map, Float}
use Rattle.fraction.proofs.Fraction.{ℚ, zeroℚ, oneℚ, addℚ, mulℚ, negℚ, invℚ, posℚ}
use Rattle.fraction.proofs.Value.{value}
use Rattle.transfer_matrix.specs.Arithmetic.{Ops}
use Rattle.transfer_matrix.specs.Job.{Edge, Job}

abbrev pub rational : Ops
rational = record {
  K = ℚ;
  𝟘 = zeroℚ;
  𝟙 = oneℚ;
  ◌⊕◌ = addℚ;
  ◌⊖◌ = λ x y. addℚ x (negℚ y);
  ◌⊗◌ = mulℚ;
  ◌⊘◌ = λ x y. mulℚ x (invℚ y);
  ⊝◌ = negℚ;
  ◌≺◌ = λ x y. posℚ (addℚ y (negℚ x));
}

-- ---- its laws

-- ---- a job of doubles

abbrev pub edge_at_value : Edge Float → Edge ℚ
edge_at_value e = record { early = e.early; late = e.late; factor = value e.factor }

-- The job with its factors read at the numbers that they stand for.
abbrev pub at_values : Job Float → Job ℚ
at_values J = record { last = J.last; window = J.window; edges = map edge_at_value J.edges; manner = J.manner }
