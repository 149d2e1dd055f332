-- Antisymmetric halves: the lower half of a vector that changes its sign where every spin is flipped, but for the signs of zeros, and the forward step of it.
use Rattle.std.specs.Prelude.{cond, List, ℕ, ◌-◌, ◌^◌, ◌<◌, Float}
use Rattle.std.specs.Float.Ieee.{neg}
use Rattle.list_laws.specs.Bits.{bit}
use Rattle.transfer_matrix.specs.Rounded.{ieee}
use Rattle.transfer_matrix.specs.Sweep as S
use Rattle.rounding.specs.Alike.{Alike}

-- but for the signs of zeros, entry j of the whole v is entry j of the half h, and entry 2 ^ w - 1 - j is its negative
pub record AntisymmetricHalf (w : ℕ) (h : ℕ → Float) (v : List Float) : Type 0 where
  pub low : (j : ℕ) → j < 2 ^ (w - 1) → Alike (S.at ieee v j) (h j)
  pub high : (j : ℕ) → j < 2 ^ (w - 1) → Alike (S.at ieee v (2 ^ w - 1 - j)) (neg (h j))

-- the numbers of h, negated at odd places
unfoldable pub alternate_half : (ℕ → Float) → ℕ → Float
alternate_half h j = cond (bit 0 j) (neg (h j)) (h j)
