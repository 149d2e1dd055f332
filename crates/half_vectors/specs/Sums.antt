-- Z and N of a pair by halves: the sums over a vector are sums over its half there and back, bit for bit.
use Rattle.std.specs.Prelude.{Bool, not, ℕ, Float}
use Rattle.std.specs.Bool.{beq}
use Rattle.std.specs.Float.{binary64}
use Rattle.std.specs.Float.Ieee.{mul}
use Rattle.list_laws.specs.Bits.{bit}

abbrev pub half_products : (ℕ → Float) → (ℕ → Float) → ℕ → Float
half_products h k j = mul binary64 (h j) (k j)

-- whether bits 0 and d of an index differ
abbrev pub differ : ℕ → ℕ → Bool
differ d j = not (beq (bit 0 j) (bit d j))
