-- The arithmetic of the code: IEEE 754 binary64, each operation rounded once.
use Rattle.std.specs.Prelude.{false, pos, Float}
use Rattle.std.specs.Float.{fin, binary64}
use Rattle.std.specs.Float.Ieee.{add, sub, mul, div, neg, lt}
use Rattle.transfer_matrix.specs.Arithmetic.{Ops}

abbrev pub ieee : Ops
ieee = record {
  K = Float;
  𝟘 = fin false 0 (pos 0);
  𝟙 = fin false 1 (pos 0);
  ◌⊕◌ = add binary64;
  ◌⊖◌ = sub binary64;
  ◌⊗◌ = mul binary64;
  ◌⊘◌ = div binary64;
  ⊝◌ = neg;
  ◌≺◌ = lt;
}
